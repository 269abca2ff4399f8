-- A mirror: what the code knows where it has read a line, and where it stops.
use Rattle.std.specs.Prelude.{◌≡◌, ◌+◌, ◌<◌, ◌^◌, ℕ, List, Option, Some, None, Result, Err, length}
use Rattle.nomos_types.specs.Acceptance.{Acceptance}
use Rattle.nomos_script.specs.declared.item.ScriptItem.{ScriptItem}
use Rattle.nomos_legal.specs.Ledger.{LedgerState}
use Rattle.nomos_legal.specs.declared.journal.End.{End}
use Rattle.nomos_legal.specs.declared.journal.Entry.{Entry}
use Rattle.nomos_journal.specs.declared.line.JournalLine.{JournalLine}
use Rattle.nomos_journal.specs.declared.line.JournalLine.TheVariants as line
use Rattle.nomos_journal.specs.declared.line.Version.{Version}
use Rattle.nomos_replay.specs.Answers.{BeginsWith, Reads}
use Rattle.nomos_replay.specs.Stand.{Stand, owes}
use Rattle.nomos_replay.specs.Told.{Told}
use Rattle.nomos_replay.specs.declared.error.ReplayError.{ReplayError}
use Rattle.nomos_replay.specs.declared.error.ReplayError.TheVariants as error
use Rattle.nomos_replay.specs.declared.journal_lines.JournalLines.{JournalLines}

-- each line that is left has a number of 32 bits, and so has the one behind them
abbrev pub IsCounted : JournalLines → Type 0
IsCounted source = source.at + length source.lines + 1 < 2 ^ 32

-- a line was read
pub record HasRead (unit : ℕ) (before : JournalLines) (l : JournalLine) (after : JournalLines) : Type 0 where
  pub begins : BeginsWith unit before.lines l after.lines
  pub at : after.at ≡ before.at + 1

-- no line stands first in what is left, or memory is wanting
abbrev pub IsNoLine : ℕ → JournalLines → ReplayError → Type 0
IsNoLine unit before error.NoMemory = Unit {0}
IsNoLine unit before (error.BadLine at) =
    (at ≡ before.at + 1) × ((l : JournalLine) (left : List ℕ) → ¬ BeginsWith unit before.lines l left)
IsNoLine unit before _ = ⊥

-- what is answered where the text stands later is answered where it stood before
pub record Carries (a : Acceptance) (first : LedgerState) (all : List ScriptItem) (before : JournalLines) (from : Stand)
    (after : JournalLines) (to : Stand) : Type 0 where
  pub answers : (answer : Result Told ReplayError) → Reads a first all (after.at + 1) to after.lines answer
      → Reads a first all (before.at + 1) from before.lines answer

-- the text is refused so where it stands, or memory is wanting
abbrev pub Stops : Acceptance → LedgerState → List ScriptItem → JournalLines → Stand → ReplayError → Type 0
Stops a first all source s error.NoMemory = Unit {0}
Stops a first all source s e = Reads a first all (source.at + 1) s source.lines (Err e)

-- ---- items

-- the line was read that names this line of the script, if one is to be named
abbrev pub HasReadLine : ℕ → Option ℕ → JournalLines → JournalLines → Type 0
HasReadLine unit None before after = after ≡ before
HasReadLine unit (Some at) before after = HasRead unit before (line.Line at) after

-- the end of an entry was read, if there is one
abbrev pub HasReadEnd : ℕ → Option Entry → JournalLines → JournalLines → Type 0
HasReadEnd unit None before after = after ≡ before
HasReadEnd unit (Some entry) before after = HasRead unit before (line.End entry.end) after

-- the text is refused so where an item owes this end, whatever the item and what was told before it
abbrev pub StopsAtOwn : Acceptance → Version → JournalLines → End → ReplayError → Type 0
StopsAtOwn a v source own e =
    (told : Told) (i : ScriptItem) (at : ℕ) (after first : LedgerState) (all items : List ScriptItem)
    → Stops a first all source (owes v told i at own after items) e

-- where that of an entry is owed, if there is one
abbrev pub StopsAtEnd : Acceptance → Version → JournalLines → Option Entry → ReplayError → Type 0
StopsAtEnd a v source None e = ⊥
StopsAtEnd a v source (Some entry) e = StopsAtOwn a v source entry.end e
