-- What is due where a ledger is carried on: from the ledger of a snapshot, by a script, to the next snapshot.
use Rattle.std.specs.Prelude.{◌≡◌, ◌⊎◌, ◌≤◌, ◌^◌, ℕ, List, ◌++◌, Option, Some, None, Ok, Err, codes, decimal}
use Rattle.nomos_answers.specs.DueLines.{IsNoScript}
use Rattle.nomos_answers.specs.Outside.{Input}
use Rattle.nomos_answers.specs.Resumes.{IsNoLedger}
use Rattle.nomos_answers.specs.RunsDue.{HasRunFrom, usual_orders}
use Rattle.nomos_answers.specs.SnapshotLines.{unsaved_line}
use Rattle.nomos_legal.specs.Ledger.{LedgerState, empty_ledger}
use Rattle.nomos_legal.specs.Passage.{Passage}
use Rattle.nomos_legal.specs.StandsFor.{StandsFor}
use Rattle.nomos_legal.specs.declared.journal.Journal.{Journal}
use Rattle.nomos_report.specs.ReportLines.{line}
use Rattle.nomos_report.specs.Reported.{report_of, run_status}
use Rattle.nomos_script.specs.ScriptReading.{ReadsAs}
use Rattle.nomos_script.specs.declared.item.ScriptItem.{ScriptItem}
use Rattle.nomos_snapshot.specs.Loading.{Loads}
use Rattle.nomos_snapshot.specs.Saving.{Saves}
use Rattle.nomos_snapshot.specs.declared.error.SaveError.{SaveError}
use Rattle.nomos_types.specs.Acceptance.{Acceptance}

-- the ledger at which a script begins: the empty one where there is no snapshot, or else the one that it is loaded as
abbrev pub BeginsFrom : Acceptance → Option Input → LedgerState → Type 0
BeginsFrom a None first = first ≡ empty_ledger
BeginsFrom a (Some snapshot) first = Loads a snapshot.text (Ok first)

-- The script reads, and this is its run from the first ledger, by one worker, the lowest ready process first.
pub record HasCarried (a : Acceptance) (snapshot : Option Input) (script : Input) (journal : Journal)
    (ps : List Passage) (last : LedgerState) : Type 0 where
  pub first : LedgerState
  pub begins : BeginsFrom a snapshot first
  pub items : List ScriptItem
  pub reads : ReadsAs script.text items
  pub run : HasRunFrom a first items usual_orders journal ps last
  pub stands : StandsFor a last

-- What is due: a status, what is to be written to the output, and the next snapshot if there is one. The script is read
-- only where there is a ledger to begin at. What is saved is loaded as the last ledger.
pub data IsCarryDue (a : Acceptance) (snapshot : Option Input) (script : Input)
    : ℕ → List ℕ → Option (List ℕ) → Type 0 where
  no_ledger : (s : Input) (status : ℕ) (out : List ℕ) → snapshot ≡ Some s → IsNoLedger a s status out
      → IsCarryDue a snapshot script status out None
  no_script : (first : LedgerState) (status : ℕ) (out : List ℕ) → BeginsFrom a snapshot first
      → IsNoScript script status out → IsCarryDue a snapshot script status out None
  unsaved : (journal : Journal) (ps : List Passage) (last : LedgerState) (why : SaveError)
      → HasCarried a snapshot script journal ps last → Saves a last (Err why)
      → IsCarryDue a snapshot script 11 (unsaved_line why) None
  -- status 0 where each entry was carried out, 3 where one was not
  carried : (journal : Journal) (ps : List Passage) (last : LedgerState) (text : List ℕ)
      → HasCarried a snapshot script journal ps last → Saves a last (Ok text) → Loads a text (Ok last)
      → IsCarryDue a snapshot script (run_status journal.entries) (report_of a ps) (Some text)

-- ---- next numbers

-- half of the highest next number that a snapshot may have: from it on a renumbering is due
abbrev pub half_of_numbers : ℕ
half_of_numbers = 2 ^ 30

-- one of the next numbers is as high
abbrev pub IsRenumberingDue : ℕ → ℕ → Type 0
IsRenumberingDue object name = (half_of_numbers ≤ object) ⊎ (half_of_numbers ≤ name)

-- the line of the numbers that the next object and the next name will have
abbrev pub next_numbers : ℕ → ℕ → List ℕ
next_numbers object name = line (codes "next " ++ decimal object ++ codes " " ++ decimal name)

-- What is told of the next numbers: their line, and where a renumbering is due one more.
pub data TellsNumbers (object name : ℕ) : List ℕ → Type 0 where
  numbers_low : ¬ (IsRenumberingDue object name) → TellsNumbers object name (next_numbers object name)
  numbers_high : IsRenumberingDue object name
      → TellsNumbers object name (next_numbers object name ++ line (codes "renumbering is due"))

-- What is due where the next numbers of a saved ledger are told: a status, and what is to be written.
pub data IsNumbersDue (a : Acceptance) (snapshot : Input) : ℕ → List ℕ → Type 0 where
  numbers_unloaded : (status : ℕ) (out : List ℕ) → IsNoLedger a snapshot status out → IsNumbersDue a snapshot status out
  numbers_told : (l : LedgerState) (out : List ℕ) → Loads a snapshot.text (Ok l)
      → TellsNumbers l.state.next_object l.state.next_name out → IsNumbersDue a snapshot 0 out
