-- What is due where a script is run and its ledger saved.
use Rattle.std.specs.Prelude.{ℕ, List, Option, Some, None, Ok, Err}
use Rattle.nomos_types.specs.Acceptance.{Acceptance}
use Rattle.nomos_script.specs.ScriptReading.{ReadsAs}
use Rattle.nomos_script.specs.declared.item.ScriptItem.{ScriptItem}
use Rattle.nomos_legal.specs.Ledger.{LedgerState}
use Rattle.nomos_legal.specs.Passage.{Passage}
use Rattle.nomos_legal.specs.StandsFor.{StandsFor}
use Rattle.nomos_legal.specs.declared.journal.Journal.{Journal}
use Rattle.nomos_report.specs.Reported.{report_of, run_status}
use Rattle.nomos_snapshot.specs.Loading.{Loads}
use Rattle.nomos_snapshot.specs.Saving.{Saves}
use Rattle.nomos_snapshot.specs.declared.error.SaveError.{SaveError}
use Rattle.nomos_words.specs.Options.{usual_limit}
use Rattle.nomos_answers.specs.DueLines.{IsNoScript, no_entries}
use Rattle.nomos_answers.specs.Outside.{Input}
use Rattle.nomos_answers.specs.RunsDue.{HasRun, usual_orders}
use Rattle.nomos_answers.specs.SnapshotLines.{unsaved_line}

-- What is due where a script is run and the ledger to which it leads is saved. It is a status, what is to be written to
-- the output, the snapshot if there is one, and the journal. What is saved is loaded as that ledger. Where the ledger
-- is not saved nothing else is printed, and the journal has no entry.
pub data IsSaveDue (a : Acceptance) (script : Input) : ℕ → List ℕ → Option (List ℕ) → Journal → Type 0 where
  no_script : (status : ℕ) (out : List ℕ) → IsNoScript script status out
      → IsSaveDue a script status out None (no_entries usual_limit)
  unsaved : (items : List ScriptItem) (journal : Journal) (ps : List Passage) (last : LedgerState) (why : SaveError)
      → ReadsAs script.text items → HasRun a items usual_orders journal ps last → StandsFor a last
      → Saves a last (Err why) → IsSaveDue a script 11 (unsaved_line why) None (no_entries usual_limit)
  -- status 0 where each entry was carried out, 3 where one was not
  saved : (items : List ScriptItem) (journal : Journal) (ps : List Passage) (last : LedgerState) (text : List ℕ)
      → ReadsAs script.text items → HasRun a items usual_orders journal ps last → StandsFor a last
      → Saves a last (Ok text) → Loads a text (Ok last)
      → IsSaveDue a script (run_status journal.entries) (report_of a ps) (Some text) journal
