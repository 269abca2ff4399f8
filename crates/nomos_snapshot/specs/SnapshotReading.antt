-- What the lines of a text tell: a ledger, or which line is the first that may not stand there.
use Rattle.std.specs.Prelude.{◌≡◌, ◌≢◌, ℕ, ◌+◌, List, [], ◌∷◌, ◌++◌, Result, Ok, Err}
use Rattle.nomos_ir.specs.declared.lists.ProgramLists.{ProgramLists}
use Rattle.nomos_legal.specs.Ledger.{LedgerState}
use Rattle.nomos_types.specs.Acceptance.{Acceptance}
use Rattle.nomos_snapshot.specs.GatheredLines.{Gathered, Goes, Stand, behind, ledger_of}
use Rattle.nomos_snapshot.specs.Line.{line_text, IsLine}
use Rattle.nomos_snapshot.specs.declared.line.SnapshotLine.{SnapshotLine}

-- the text begins with this line, and this is left behind it
pub record BeginsWith (lists : ProgramLists) (text : List ℕ) (l : SnapshotLine) (left : List ℕ) : Type 0 where
  pub is : IsLine lists l
  pub joined : text ≡ line_text lists l ++ 10 ∷ left

-- A line is looked for: but behind the first four the text may end.
abbrev pub WantsLine : Stand → List ℕ → Type 0
WantsLine (behind g) text = text ≢ []
WantsLine _ text = Unit {0}

-- no line that may stand there stands first in the text
abbrev pub NoneMayStand : Acceptance → Stand → List ℕ → Type 0
NoneMayStand a stand text =
    (l : SnapshotLine) (left : List ℕ) (next : Stand) → BeginsWith a.program text l left → ¬ (Goes a stand l next)

-- What is told by what is left of a text, whose first line has this number, where the text stands so. It is the ledger,
-- or the number of the first line that is missing, or may not stand there.
pub data Reads (a : Acceptance) : ℕ → Stand → List ℕ → Result LedgerState ℕ → Type 0 where
  ends : (at : ℕ) (g : Gathered) → Reads a at (behind g) [] (Ok (ledger_of g))
  goes : (at : ℕ) (stand next : Stand) (text left : List ℕ) (l : SnapshotLine) (answer : Result LedgerState ℕ)
      → BeginsWith a.program text l left → Goes a stand l next → Reads a (at + 1) next left answer
      → Reads a at stand text answer
  bad : (at : ℕ) (stand : Stand) (text : List ℕ) → WantsLine stand text → NoneMayStand a stand text
      → Reads a at stand text (Err at)
