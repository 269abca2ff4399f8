-- What is due where a journal is to be replayed.
use Rattle.std.specs.Prelude.{◌≡◌, ℕ, List, ◌⊎◌, Err, codes}
use Rattle.nomos_types.specs.Acceptance.{Acceptance}
use Rattle.nomos_script.specs.ScriptReading.{ReadsAs}
use Rattle.nomos_script.specs.declared.item.ScriptItem.{ScriptItem}
use Rattle.nomos_legal.specs.Ledger.{LedgerState}
use Rattle.nomos_legal.specs.StandsFor.{StandsFor}
use Rattle.nomos_legal.specs.declared.journal.Journal.{Journal}
use Rattle.nomos_report.specs.Reported.{run_status}
use Rattle.nomos_words.specs.Options.{usual_limit}
use Rattle.nomos_replay.specs.Answers.{Answers}
use Rattle.nomos_replay.specs.Refusal.{refusal_line}
use Rattle.nomos_replay.specs.Replayed.{HasReplayed}
use Rattle.nomos_replay.specs.declared.error.ReplayError.{ReplayError}
use Rattle.nomos_answers.specs.DueLines.{IsNoScript, no_entries, read_fault_line}
use Rattle.nomos_answers.specs.Outside.{HaveRisen, Input}

-- the journal where none was replayed
abbrev pub no_journal : Journal
no_journal = no_entries usual_limit

-- What is due of a journal, where the script has these items: a status, what is to be written to the output, and the
-- journal.
pub data IsJournalDue (a : Acceptance) (items : List ScriptItem) (journal : Input)
    : ℕ → List ℕ → Journal → Type 0 where
  fault : HaveRisen journal.counts → IsJournalDue a items journal 5 (read_fault_line (codes "journal")) no_journal
  refused : (why : ReplayError) → Answers a items journal.text (Err why)
      → IsJournalDue a items journal 9 (refusal_line a.annotations.unit why) no_journal
  -- status 0 where each entry was carried out, 3 where one was not
  replayed : (kept : Journal) (last : LedgerState) (report : List ℕ)
      → HasReplayed a items journal.text kept last report → StandsFor a last
      → IsJournalDue a items journal (run_status kept.entries) report kept

-- What is due where a journal is replayed.
pub data IsReplayDue (a : Acceptance) (script journal : Input) : ℕ → List ℕ → Journal → Type 0 where
  no_script : (status : ℕ) (out : List ℕ) → IsNoScript script status out
      → IsReplayDue a script journal status out no_journal
  answered : (items : List ScriptItem) (status : ℕ) (out : List ℕ) (kept : Journal) → ReadsAs script.text items
      → IsJournalDue a items journal status out kept → IsReplayDue a script journal status out kept

-- this journal is due, with its status, but where a source failed
abbrev pub GivesJournal : Journal → ℕ → Journal → Type 0
GivesJournal kept status given = (status ≡ 5) ⊎ ((given ≡ kept) × (status ≡ run_status kept.entries))
