-- A mirror: where the code's reading of a text stands.
use Rattle.std.specs.Prelude.{◌≡◌, ◌≢◌, ℕ, List, Option, MatchOption, Result}
use Rattle.nomos_legal.specs.Ledger.{LedgerState}
use Rattle.nomos_types.specs.Acceptance.{Acceptance}
use Rattle.nomos_snapshot.specs.GatheredLines.{Gathered, Goes, Stand, at_head, at_next, at_spent, at_unit, behind}
use Rattle.nomos_snapshot.specs.Line.{IsLine, line_text}
use Rattle.nomos_snapshot.specs.SnapshotReading.{Reads}
use Rattle.nomos_snapshot.specs.declared.gathered.Gathering.{Gathering}
use Rattle.nomos_snapshot.specs.declared.line.SnapshotLine.{SnapshotLine}
use Rattle.nomos_snapshot.specs.declared.stand.TextStand.{TextStand}
use Rattle.nomos_snapshot.specs.declared.stand.TextStand.TheVariants as stand
use Rattle.nomos_snapshot.specs.ToldLines.{CannotGo, IsKept, told}

abbrev pub stand_told : TextStand → Stand
stand_told stand.Head = at_head
stand_told stand.Unit = at_unit
stand_told stand.Next = at_next
stand_told (stand.Spent next_object next_name) = at_spent next_object next_name
stand_told (stand.Behind g) = behind (told g)

abbrev pub IsStandKept : TextStand → Type 0
IsStandKept (stand.Behind g) = IsKept g
IsStandKept _ = Unit {0}

-- Where the line leads from there, if it may stand there.
abbrev pub IsLed : Acceptance → TextStand → SnapshotLine → Option TextStand → Type 0
IsLed a from l next =
    MatchOption next (CannotGo a (stand_told from) l)
    (λ to. Goes a (stand_told from) l (stand_told to) × IsStandKept to)

-- a line that is written so, and leads there
pub record LedBy (a : Acceptance) (from : TextStand) (text : List ℕ) (to : TextStand) : Type 0 where
  pub line : SnapshotLine
  pub is : IsLine a.program line
  pub written : text ≡ line_text a.program line
  pub goes : Goes a (stand_told from) line (stand_told to)
  pub kept : IsStandKept to

-- Where the line that is written so leads from there, if there is one, and it may stand there.
abbrev pub IsLedBy : Acceptance → TextStand → List ℕ → Option TextStand → Type 0
IsLedBy a from text next =
    MatchOption next
    ((l : SnapshotLine) → IsLine a.program l → text ≡ line_text a.program l → CannotGo a (stand_told from) l)
    (LedBy a from text)

-- what was gathered, where a text may end
abbrev pub HasEnded : TextStand → Option Gathering → Type 0
HasEnded from answer =
    MatchOption answer ((g : Gathered) → stand_told from ≢ behind g) (λ g. stand_told from ≡ behind (told g))

-- What was read of a text leads to where the reading stands: what is told of what is left is told of the text.
pub record HasRead (a : Acceptance) (text left : List ℕ) (at : ℕ) (stand : TextStand) : Type 0 where
  pub kept : IsStandKept stand
  pub tells : (answer : Result LedgerState ℕ) → Reads a at (stand_told stand) left answer
      → Reads a 1 at_head text answer
