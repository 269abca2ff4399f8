-- A mirror: what the code keeps of the items that were told.
use Rattle.std.specs.Prelude.{◌≡◌, ◌≤◌, ◌+◌, ℕ, List, length, Ok, All, true, false}
use Rattle.nomos_types.specs.Acceptance.{Acceptance}
use Rattle.nomos_script.specs.declared.item.ScriptItem.{ScriptItem}
use Rattle.nomos_legal.specs.Ledger.{LedgerState}
use Rattle.nomos_legal.specs.Legal.{TellsFrom}
use Rattle.nomos_legal.specs.Passage.{Passage}
use Rattle.nomos_legal.specs.declared.journal.Journal.{Journal}
use Rattle.nomos_journal.specs.JournalText.{journal_lines}
use Rattle.nomos_journal.specs.Line.{IsLine}
use Rattle.nomos_journal.specs.Text.{lines_text}
use Rattle.nomos_journal.specs.declared.line.Version.{Version}
use Rattle.nomos_walk.specs.Coming.{HasCome}
use Rattle.nomos_walk.specs.Papers.{papers_of}
use Rattle.nomos_walk.specs.WalkState.{WalkState}
use Rattle.nomos_walk.specs.Walks.{PassesAs}
use Rattle.nomos_walk.specs.declared.papers.Papers.{Papers}
use Rattle.nomos_walk.specs.declared.papers.WantedTexts.{WantedTexts}
use Rattle.nomos_walk.specs.declared.started.PassedItem.{PassedItem}
use Rattle.nomos_replay.specs.Answers.{AnswersFrom, Reads, max_bytes}
use Rattle.nomos_replay.specs.Stand.{Stand, before}
use Rattle.nomos_replay.specs.Told.{Told, journal_told, nothing_told, told_with}
use Rattle.nomos_replay.specs.declared.told_item.Reading.{Reading}
use Rattle.nomos_replay.specs.declared.answering.ToldText.{ToldText}
use Rattle.nomos_replay.specs.declared.journal_lines.JournalLines.{JournalLines}
use Rattle.nomos_replay.specs.mirror.JournalReading.{Carries}

-- of a walk the report alone is wanted
abbrev pub report_alone : WantedTexts
report_alone = record { report = true; text = false; result = false }

-- or the text of the journal alone
abbrev pub text_alone : WantedTexts
text_alone = record { report = false; text = true; result = false }

-- what was told with this limit
abbrev pub told_of : ℕ → List Passage → LedgerState → Told
told_of limit ps l = record { limit = limit; passages = ps; ledger = l }

-- From where the text stood an item has passed: this became of it on the walk, and so it is told.
pub record PassesOn {M : Type 0} (a : Acceptance) (v : Version) (told : Told) (w : WalkState)
    (from : List ScriptItem → Stand) (source : JournalLines) (i : ScriptItem) (passed : PassedItem M)
    (later : JournalLines)
    (after : WalkState) : Type 0 where
  pub passage : Passage
  pub passes : PassesAs w told.ledger i passage passed after
  pub carries : (first : LedgerState) (all items : List ScriptItem)
      → Carries a first all source (from items) later (before v (told_with told passage) items)

-- From where the text stood before these items the first ones were told, and others are left; the walk has come as far.
pub record ToldUpTo (a : Acceptance) (v : Version) (first : LedgerState) (limit : ℕ) (wanted : WantedTexts)
    (source : JournalLines) (items done left : List ScriptItem) (later : Reading) (l : LedgerState)
    (w : WalkState) : Type 0
  where
    pub passages : List Passage
    pub come : HasCome a first limit wanted done later.entries.items passages l w
    pub carries : (all : List ScriptItem)
        → Carries a first all source (before v (nothing_told first limit) items) later.source
        (before v (told_of limit passages l) left)

-- This was told, and is given with what was written of it.
pub record IsWholeTold {M : Type 0} (a : Acceptance) (wanted : WantedTexts) (told : Told) (whole : ToldText M) : Type
    0 where
  pub journal : whole.journal ≡ journal_told told
  pub ledger : whole.ledger ≡ told.ledger
  pub papers : whole.papers ≡ papers_of a told.limit wanted told.passages

-- All is told, and the text ends.
pub record AllTold {M : Type 0} (a : Acceptance) (v : Version) (first : LedgerState) (limit : ℕ) (wanted : WantedTexts)
    (source : JournalLines) (items : List ScriptItem) (whole : ToldText M) : Type 0 where
  pub told : Told
  pub is : IsWholeTold a wanted told whole
  pub reads : (all : List ScriptItem)
      → Reads a first all (source.at + 1) (before v (nothing_told first limit) items) source.lines (Ok told)

-- What is answered of the text: all of this is told.
pub record IsAnswered {M : Type 0} (a : Acceptance) (first : LedgerState) (items : List ScriptItem) (text : List ℕ)
    (wanted : WantedTexts) (whole : ToldText M) : Type 0 where
  pub told : Told
  pub is : IsWholeTold a wanted told whole
  pub answers : AnswersFrom a first items text (Ok told)

-- These are the papers of a journal that is legal from the first ledger, as far as they are wanted.
pub record ArePapersOf (a : Acceptance) (first : LedgerState) (items : List ScriptItem) (journal : Journal)
    (wanted : WantedTexts) (papers : Papers) : Type 0 where
  pub passages : List Passage
  pub last : LedgerState
  pub tells : TellsFrom a first items journal passages last
  pub papers_are : papers ≡ papers_of a journal.limit wanted passages

-- The text is that of this legal journal, in one of the versions. Each of its lines is a line, whose numbers are within
-- their bits, and it is not too long.
pub record IsLegalText (a : Acceptance) (first : LedgerState) (items : List ScriptItem) (journal : Journal)
    (text : List ℕ) : Type 0 where
  pub version : Version
  pub passages : List Passage
  pub last : LedgerState
  pub tells : TellsFrom a first items journal passages last
  pub forms : All IsLine (journal_lines version a journal.limit passages)
  pub lines : text ≡ lines_text a.annotations.unit (journal_lines version a journal.limit passages)
  pub within : length text ≤ max_bytes
