-- What the reading of a journal gives, and why it is refused.
use Rattle.std.specs.Prelude.{◌≡◌, ℕ, List, Err}
use Rattle.nomos_types.specs.Acceptance.{Acceptance}
use Rattle.nomos_script.specs.declared.item.ScriptItem.{ScriptItem}
use Rattle.nomos_legal.specs.Ledger.{LedgerState, empty_ledger}
use Rattle.nomos_legal.specs.Legal.{TellsFrom}
use Rattle.nomos_legal.specs.Passage.{Passage}
use Rattle.nomos_legal.specs.declared.journal.Journal.{Journal}
use Rattle.nomos_journal.specs.JournalText.{journal_lines}
use Rattle.nomos_journal.specs.Text.{lines_text}
use Rattle.nomos_journal.specs.declared.line.Version.{Version}
use Rattle.nomos_report.specs.Reported.{report_of}
use Rattle.nomos_replay.specs.Answers.{AnswersFrom}
use Rattle.nomos_replay.specs.declared.error.ReplayError.{ReplayError}
use Rattle.nomos_replay.specs.declared.error.ReplayError.TheVariants as error

-- The text is in this version that of this journal of the items, which is legal from the first ledger.
pub record IsTextFrom (v : Version) (a : Acceptance) (first : LedgerState) (items : List ScriptItem) (journal : Journal)
    (text : List ℕ) : Type 0 where
  pub passages : List Passage
  pub last : LedgerState
  pub tells : TellsFrom a first items journal passages last
  pub lines : text ≡ lines_text a.annotations.unit (journal_lines v a journal.limit passages)

-- The text is that of a journal of the items which is legal from the first ledger, in one of the versions. These
-- passages are told by the journal, whose text it is, and by the report, and lead to the ledger.
pub record HasReplayedFrom (a : Acceptance) (first : LedgerState) (items : List ScriptItem) (text : List ℕ)
    (journal : Journal) (ledger : LedgerState) (report : List ℕ) : Type 0 where
  pub version : Version
  pub passages : List Passage
  pub tells : TellsFrom a first items journal passages ledger
  pub lines : text ≡ lines_text a.annotations.unit (journal_lines version a journal.limit passages)
  pub printed : report ≡ report_of a passages

-- from the empty ledger
abbrev pub HasReplayed : Acceptance → List ScriptItem → List ℕ → Journal → LedgerState → List ℕ → Type 0
HasReplayed a items text journal ledger report = HasReplayedFrom a empty_ledger items text journal ledger report

-- The text is refused so, from this first ledger; want of memory may come for every text.
abbrev pub IsRefusedFrom : Acceptance → LedgerState → List ScriptItem → List ℕ → ReplayError → Type 0
IsRefusedFrom a first items text error.NoMemory = Unit {0}
IsRefusedFrom a first items text e = AnswersFrom a first items text (Err e)

-- from the empty ledger
abbrev pub IsRefusedSo : Acceptance → List ScriptItem → List ℕ → ReplayError → Type 0
IsRefusedSo a items text e = IsRefusedFrom a empty_ledger items text e
