-- What is answered of a journal's text: what it tells, or the first line that spoils it.
use Rattle.std.specs.Prelude.{◌≡◌, ◌≢◌, ◌<◌, ◌≤◌, ℕ, ◌+◌, List, [], ◌∷◌, ◌++◌, length, None, Result, Ok, Err}
use Rattle.nomos_types.specs.Acceptance.{Acceptance}
use Rattle.nomos_script.specs.declared.item.ScriptItem.{ScriptItem}
use Rattle.nomos_script.specs.declared.item.ScriptItem.TheVariants as item
use Rattle.nomos_legal.specs.Ledger.{LedgerState, empty_ledger}
use Rattle.nomos_legal.specs.Passage.{still}
use Rattle.nomos_journal.specs.Line.{line_text, IsLine}
use Rattle.nomos_journal.specs.declared.line.JournalLine.{JournalLine}
use Rattle.nomos_journal.specs.declared.line.Version.{Version}
use Rattle.nomos_replay.specs.Spoiled.{Spoils}
use Rattle.nomos_replay.specs.Stand.{Stand, at_head, before, Goes, MayStand}
use Rattle.nomos_replay.specs.Told.{Told, told_with}
use Rattle.nomos_replay.specs.declared.error.ReplayError.{ReplayError}
use Rattle.nomos_replay.specs.declared.error.ReplayError.TheVariants as error

-- the most bytes of a text that is read
abbrev pub max_bytes : ℕ
max_bytes = 1073741824

-- the text begins with this line, and this is left behind it; amounts have so many Dths to the unit
pub record BeginsWith (unit : ℕ) (text : List ℕ) (l : JournalLine) (left : List ℕ) : Type 0 where
  pub is : IsLine l
  pub joined : text ≡ line_text unit l ++ 10 ∷ left

-- One line is looked for. A `show` has none, and where all items were told the text may end.
abbrev pub WantsLine : Stand → List ℕ → Type 0
WantsLine (before v told []) text = text ≢ []
WantsLine (before v told (item.Show at ∷ items)) text = ⊥
WantsLine stand text = Unit {0}

-- no line of a form that may stand there stands first in the text
abbrev pub HasNoForm : ℕ → Stand → List ℕ → Type 0
HasNoForm unit stand text =
    (l : JournalLine) (left : List ℕ) → BeginsWith unit text l left → ¬ MayStand stand l

-- what becomes of a `show`
abbrev pub told_show : Told → ℕ → Told
told_show told at = told_with told (still (item.Show at) None told.ledger told.ledger)

-- What is answered of what is left of a text, whose first line has this number, where the text stands so, the ledger
-- before it is this first one, and all items are these.
pub data Reads (a : Acceptance) (first : LedgerState) (all : List ScriptItem)
    : ℕ → Stand → List ℕ → Result Told ReplayError → Type 0 where
  -- all is told
  ends : (at : ℕ) (v : Version) (told : Told) → Reads a first all at (before v told []) [] (Ok told)
  -- a `show` has no lines
  shows : (at : ℕ) (v : Version) (told : Told) (n : ℕ) (items : List ScriptItem) (text : List ℕ)
      (answer : Result Told ReplayError) → Reads a first all at (before v (told_show told n) items) text answer
      → Reads a first all at (before v told (item.Show n ∷ items)) text answer
  -- the first line is right, and the others answer
  goes : (at : ℕ) (stand next : Stand) (text left : List ℕ) (l : JournalLine) (answer : Result Told ReplayError)
      → BeginsWith a.annotations.unit text l left → Goes a first all stand l next
      → Reads a first all (at + 1) next left answer → Reads a first all at stand text answer
  -- the first line has a form, and spoils the text
  spoils : (at : ℕ) (stand : Stand) (text left : List ℕ) (l : JournalLine) (cause : ReplayError)
      → BeginsWith a.annotations.unit text l left → Spoils a at stand l cause
      → Reads a first all at stand text (Err cause)
  -- the first line has no form that may stand there, or is missing, or one line is too many
  bad : (at : ℕ) (stand : Stand) (text : List ℕ) → WantsLine stand text → HasNoForm a.annotations.unit stand text
      → Reads a first all at stand text (Err (error.BadLine at))

-- What is answered of the text of a journal of these items, from this first ledger.
pub data AnswersFrom (a : Acceptance) (first : LedgerState) (items : List ScriptItem) (text : List ℕ)
    : Result Told ReplayError → Type 0 where
  too_long : max_bytes < length text → AnswersFrom a first items text (Err error.TooLong)
  reads : (answer : Result Told ReplayError) → length text ≤ max_bytes → Reads a first items 1 at_head text answer
      → AnswersFrom a first items text answer

-- from the empty ledger
abbrev pub Answers : Acceptance → List ScriptItem → List ℕ → Result Told ReplayError → Type 0
Answers a items text answer = AnswersFrom a empty_ledger items text answer
