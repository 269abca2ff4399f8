-- What is written, and what stays as it was.
use Rattle.std.specs.Prelude.{◌≡◌, ◌≢◌, ◌⊎◌, ℕ, List, Option, Some, None, codes}
use Rattle.nomos_base.specs.Sink.{AppendsSome}
use Rattle.nomos_answers.specs.Benches.{figures_of}
use Rattle.nomos_answers.specs.DueLines.{read_fault_line}
use Rattle.nomos_answers.specs.Outside.{HaveRisen}
use Rattle.nomos_least.specs.LeastBounds.{IsLeastAs}
use Rattle.nomos_least.specs.declared.least.LeastBounds.{LeastBounds}
use Rattle.nomos_legal.specs.Ledger.{LedgerState}
use Rattle.nomos_legal.specs.Passage.{Passage}
use Rattle.nomos_legal.specs.declared.journal.Journal.{Journal}
use Rattle.nomos_report.specs.Block.{accepted_block}
use Rattle.nomos_report.specs.Reported.{report_of}
use Rattle.nomos_walk.specs.Wanted.{journal_text_of, result_behind}
use Rattle.nomos_top.specs.Call.{IsDueOf, inputs_of}
use Rattle.nomos_top.specs.Seen.{Call, Texts, HasKept, HasWritten, Gives, IsDone}
use Rattle.nomos_top.specs.Kept.{CarriesOut}
use Rattle.nomos_top.specs.LeastBlock.{least_block}
use Rattle.nomos_top.specs.Tasks.{Keeps, KeepsJournal, ReadsTalk, ReadsThird, third_name}
use Rattle.nomos_types.specs.Acceptance.{Acceptance}
use Rattle.nomos_words.specs.Commands.{row}
use Rattle.nomos_words.specs.Summary.{summary_text}
use Rattle.nomos_words.specs.Words.{Task, check, bench, least, Asks}

-- what tells of a script that was gone through: a report, or for `bench` a summary
abbrev pub told_of : Task → Acceptance → Journal → List Passage → LedgerState → List ℕ
told_of (bench seed bidders) a journal ps last =
    summary_text (figures_of (record { seed = seed; bidders = bidders }) a journal last) (result_behind None ps)
told_of _ a journal ps last = report_of a ps

-- the journal's sink has got nothing
abbrev pub HasKeptNothing : Call → Type 0
HasKeptNothing c = c.journal_out.after ≡ c.journal_out.before

-- A sink failed: the output, which has a front of what was due, and the journal's has nothing; or the output has all,
-- and the journal's has a front of what was due.
pub data IsCutOff (c : Call) (t : Texts) : Type 0 where
  out_failed : (status : ℕ) (out : List ℕ) (kept : Option (List ℕ)) → IsDueOf c (inputs_of c t) status out kept
      → HaveRisen c.out.counts → AppendsSome out c.out.before c.out.after → HasKeptNothing c → IsCutOff c t
  journal_out_failed : (status : ℕ) (out text : List ℕ) → IsDueOf c (inputs_of c t) status out (Some text)
      → HasWritten c out → HaveRisen c.journal_out.counts
      → AppendsSome text c.journal_out.before c.journal_out.after → IsCutOff c t

-- What is written. The lines of refusals are said where refusals are.
pub record WritesWhatIsDue (c : Call) (t : Texts) : Type 0 where
  pub checked : (file : List ℕ) → Asks c.words (check file) → c.status ≡ 0
      → (a : Acceptance) × Gives c a × HasWritten c (accepted_block a)
  pub bounded : (file : List ℕ) → Asks c.words (least file) → c.status ≡ 0
      → (b : LeastBounds) × Gives c b.accepted × IsLeastAs t.contract b × HasWritten c (least_block b)
  -- of a talk more is told, as is said where talks are
  pub told : (r : CarriesOut c t) → IsDone c.status → ¬ (ReadsTalk r.task)
      → HasWritten c (told_of r.task r.a c.journal r.passages r.last)
  -- the journal's text is kept where the words ask for that; what is saved is said where snapshots are
  pub kept : (r : CarriesOut c t) → IsDone c.status → KeepsJournal r.task
      → HasKept c (journal_text_of r.a c.journal.limit r.passages)
  pub nothing_kept : (task : Task) → Asks c.words task → ¬ (Keeps task) → HasKeptNothing c
  pub nothing_due : ¬ (IsDone c.status) → c.status ≢ 6 → HasKeptNothing c
  -- with 6 a front of what was due is written, and with 7 nothing
  pub cut_off : c.status ≡ 6 → IsCutOff c t
  pub nothing_out : c.status ≡ 7 → c.out.after ≡ c.out.before

-- A source could not be read: the very one that the line names failed in this call. The third is named as the text that
-- the task reads there.
pub data IsFault (c : Call) : Type 0 where
  contract : HaveRisen c.contract.counts → HasWritten c (read_fault_line (codes "contract")) → IsFault c
  script : HaveRisen c.script.counts → HasWritten c (read_fault_line (codes "script")) → IsFault c
  third : (task : Task) → Asks c.words task → ReadsThird task → HaveRisen c.journal_in.counts
      → HasWritten c (read_fault_line (third_name (row task).third)) → IsFault c

-- A failure comes only where a source or a sink failed in this call.
pub record FailsTruly (c : Call) (t : Texts) : Type 0 where
  pub read : c.status ≡ 5 → IsFault c
  pub write : c.status ≡ 6 → HaveRisen c.out.counts ⊎ HaveRisen c.journal_out.counts
