-- What is written of a walk while it goes: its report, its journal's text and its last result, each where it is wanted.
use Rattle.std.specs.Prelude.{ℕ, Bool, true, false, List, ◌++◌, Option, Some, None}
use Rattle.std.specs.Option.{option_map}
use Rattle.nomos_ir.specs.Value.{Value}
use Rattle.nomos_types.specs.Acceptance.{Acceptance}
use Rattle.nomos_legal.specs.Passage.{Passage}
use Rattle.nomos_journal.specs.JournalText as journal
use Rattle.nomos_journal.specs.Text.{lines_text}
use Rattle.nomos_journal.specs.declared.line.Version.TheVariants as version
use Rattle.nomos_report.specs.Reported as report
use Rattle.nomos_walk.specs.Wanted.{entry_result, journal_text_of, result_behind, where_wanted}
use Rattle.nomos_walk.specs.declared.papers.Papers.{Papers}
use Rattle.nomos_walk.specs.declared.papers.WantedTexts.{WantedTexts}

-- a text with these lines behind it, where there is one
abbrev pub with_lines : Option (List ℕ) → List ℕ → Option (List ℕ)
with_lines text lines = option_map (λ t. t ++ lines) text

-- a result that is kept, where it is wanted
abbrev pub kept_where_wanted : Bool → Option Value → Option (Option Value)
kept_where_wanted true value = Some value
kept_where_wanted false value = None

-- the result with one passage more, where it is kept
abbrev pub result_with : Passage → Option (Option Value) → Option (Option Value)
result_with p kept = option_map (λ before. entry_result p.last before p.entry) kept

-- the result that is kept, if there is one
abbrev pub kept_result : Option (Option Value) → Option Value
kept_result None = None
kept_result (Some value) = value

-- what is written of these passages
abbrev pub papers_of : Acceptance → ℕ → WantedTexts → List Passage → Papers
papers_of a limit wanted ps = record {
  report = where_wanted wanted.report (report.report_of a ps);
  text = where_wanted wanted.text (journal_text_of a limit ps);
  result = kept_where_wanted wanted.result (result_behind None ps);
}

-- the same with one passage more
abbrev pub papers_with : Acceptance → Passage → Papers → Papers
papers_with a p papers = record {
  report = with_lines papers.report (report.passage_lines a p);
  text = with_lines papers.text (lines_text a.annotations.unit (journal.passage_lines version.Two a p));
  result = result_with p papers.result;
}
