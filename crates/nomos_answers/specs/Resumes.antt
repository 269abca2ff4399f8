-- What is due where a script is run from the ledger of a snapshot.
use Rattle.std.specs.Prelude.{ℕ, List, take, Ok, Err, codes}
use Rattle.nomos_types.specs.Acceptance.{Acceptance}
use Rattle.nomos_script.specs.ScriptReading.{ReadsAs}
use Rattle.nomos_script.specs.declared.item.ScriptItem.{ScriptItem}
use Rattle.nomos_legal.specs.Ledger.{LedgerState}
use Rattle.nomos_legal.specs.Passage.{Passage}
use Rattle.nomos_legal.specs.StandsFor.{StandsFor}
use Rattle.nomos_legal.specs.declared.journal.Journal.{Journal}
use Rattle.nomos_report.specs.Reported.{report_of, run_status}
use Rattle.nomos_snapshot.specs.Loading.{Loads}
use Rattle.nomos_snapshot.specs.declared.error.LoadError.{LoadError}
use Rattle.nomos_words.specs.Options.{usual_limit}
use Rattle.nomos_answers.specs.DueLines.{IsNoScript, no_entries, read_fault_line}
use Rattle.nomos_answers.specs.Outside.{HaveRisen, Input}
use Rattle.nomos_answers.specs.RunsDue.{HasRunFrom, usual_orders}
use Rattle.nomos_answers.specs.SnapshotLines.{unloaded_line}

-- What is due where there is no ledger to begin at: a status and a line.
pub data IsNoLedger (a : Acceptance) (snapshot : Input) : ℕ → List ℕ → Type 0 where
  fault : HaveRisen snapshot.counts → IsNoLedger a snapshot 5 (read_fault_line (codes "snapshot"))
  refused : (why : LoadError) → Loads a snapshot.text (Err why) → IsNoLedger a snapshot 11 (unloaded_line why)

-- What is due where a script is run from the ledger of a snapshot: a status, what is to be written to the output, and
-- the journal. The script is read only where there is a ledger.
pub data IsResumeDue (a : Acceptance) (snapshot script : Input) : ℕ → List ℕ → Journal → Type 0 where
  no_ledger : (status : ℕ) (out : List ℕ) → IsNoLedger a snapshot status out
      → IsResumeDue a snapshot script status out (no_entries usual_limit)
  no_script : (first : LedgerState) (status : ℕ) (out : List ℕ) → Loads a snapshot.text (Ok first)
      → IsNoScript script status out → IsResumeDue a snapshot script status out (no_entries usual_limit)
  -- status 0 where each entry was carried out, 3 where one was not
  ran : (first : LedgerState) (items : List ScriptItem) (journal : Journal) (ps : List Passage) (last : LedgerState)
      → Loads a snapshot.text (Ok first) → ReadsAs script.text items
      → HasRunFrom a first items usual_orders journal ps last → StandsFor a last
      → IsResumeDue a snapshot script (run_status journal.entries) (report_of a ps) journal

-- The journal that is known where memory was wanting: no item has passed, or some first ones have.
pub data IsResumePart (a : Acceptance) (snapshot script : Input) : Journal → Type 0 where
  not_run : IsResumePart a snapshot script (no_entries usual_limit)
  ran_part : (first : LedgerState) (items : List ScriptItem) (count : ℕ) (journal : Journal) (ps : List Passage)
      (last : LedgerState) → Loads a snapshot.text (Ok first) → ReadsAs script.text items
      → HasRunFrom a first (take count items) usual_orders journal ps last
      → IsResumePart a snapshot script journal
