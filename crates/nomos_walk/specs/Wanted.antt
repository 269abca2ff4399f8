-- What is wanted of a walk over a script: the text of its journal, and the last result of its last entry.
use Rattle.std.specs.Prelude.{ℕ, ◌-◌, Bool, true, false, List, [], ◌∷◌, length, Option, Some, None, slice_get}
use Rattle.std.specs.Option.{option_map}
use Rattle.nomos_ir.specs.Value.{Value}
use Rattle.nomos_types.specs.Acceptance.{Acceptance}
use Rattle.nomos_machine.specs.State.{State}
use Rattle.nomos_legal.specs.Passage.{Passage}
use Rattle.nomos_legal.specs.declared.journal.End.{End}
use Rattle.nomos_legal.specs.declared.journal.End.TheVariants as end
use Rattle.nomos_legal.specs.declared.journal.Entry.{Entry}
use Rattle.nomos_journal.specs.JournalText.{journal_lines}
use Rattle.nomos_journal.specs.Text.{lines_text}
use Rattle.nomos_journal.specs.declared.line.Version.TheVariants as version

-- the text in version 2 of a journal with this limit, of which these passages tell
abbrev pub journal_text_of : Acceptance → ℕ → List Passage → List ℕ
journal_text_of a limit ps = lines_text a.annotations.unit (journal_lines version.Two a limit ps)

-- a text where it is wanted
abbrev pub where_wanted : Bool → List ℕ → Option (List ℕ)
where_wanted true text = Some text
where_wanted false text = None

-- ---- the last result

-- the last value that was emitted
abbrev pub last_value : List (ℕ × Value) → Option Value
last_value results = option_map (λ r. r.1) (slice_get results (length results - 1))

-- what an end leaves as last result: of a batch that stays the last one of its last state
abbrev pub end_result : State → End → Option Value
end_result s end.Committed = last_value s.results
end_result s _ = None

-- a passage without an entry leaves what was there
abbrev pub entry_result : State → Option Value → Option Entry → Option Value
entry_result s before None = before
entry_result s before (Some entry) = end_result s entry.end

-- The last result of the last entry behind passages, where this was there before them. A deposit has none, nor has a
-- batch that does not stay.
abbrev pub result_behind : Option Value → List Passage → Option Value
result_behind before [] = before
result_behind before (p ∷ ps) = result_behind (entry_result p.last before p.entry) ps

-- the last result of the last entry, where it is wanted
abbrev pub result_where_wanted : Bool → List Passage → Option Value
result_where_wanted true ps = result_behind None ps
result_where_wanted false ps = None
