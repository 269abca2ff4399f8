-- A mirror of the code: what its steps answer. No promise stands on it.
use Rattle.std.specs.Prelude.{◌≡◌, ◌+◌, ◌<◌, ◌≤◌, ◌^◌, ℕ, ℤ, pos, unsigned_abs, ◌<ℤ◌, List, length, All, slice_index_or, Vec, Option, Some, None, true, false}
use Rattle.std.specs.Global.{Global}
use Rattle.nomos_forms.specs.declared.form.Form.{Form}
use Rattle.nomos_forms.specs.declared.row_list.RowList.{RowList}
use Rattle.nomos_simplex.specs.Exchange.{coef_at}
use Rattle.nomos_simplex.specs.Exits.{fractions, found_or_large}
use Rattle.nomos_simplex.specs.LeastRun.{PivotsTo, EndsFound, Lowers, LeastRun, is_large_with}
use Rattle.nomos_simplex.specs.LowestVariable.{leaving}
use Rattle.nomos_simplex.specs.Nearest.{line_at}
use Rattle.nomos_simplex.specs.PivotRun.{answer_to}
use Rattle.nomos_simplex.specs.Sizes.{IsLine}
use Rattle.nomos_simplex.specs.declared.classes.Classed.{Classed}
use Rattle.nomos_simplex.specs.declared.keeping.KeptTable.{KeptTable}
use Rattle.nomos_simplex.specs.declared.lowering.Aimed.{Aimed}
use Rattle.nomos_simplex.specs.declared.lowering.LeastTurn.{LeastTurn}
use Rattle.nomos_simplex.specs.declared.lowering.LeastTurn.TheVariants as next
use Rattle.nomos_simplex.specs.declared.solved.Solved.{Solved}
use Rattle.nomos_simplex.specs.declared.solved.Solved.TheVariants as solved
use Rattle.nomos_simplex.specs.declared.solving.SolvingEnd.{SolvingEnd}
use Rattle.nomos_simplex.specs.declared.solving.SolvingEnd.TheVariants as sought
use Rattle.nomos_simplex.specs.declared.table.TableLine.{TableLine}
use Rattle.nomos_simplex.specs.declared.table.Table.{Table}
use Rattle.nomos_simplex.specs.mirror.Classes.{ShowsFull}

-- a sum, or nothing where it is at least 2^125
abbrev pub IsSumOrHuge : ℤ → Option ℤ → Type 0
IsSumOrHuge z (Some sum) = sum ≡ z
IsSumOrHuge z None = 2 ^ 125 ≤ unsigned_abs z

-- the sums, or nothing where one of them is at least 2^125
abbrev pub AreSums : List ℤ → Option (Vec ℤ Global) → Type 0
AreSums zs (Some v) = v.items ≡ zs
AreSums zs None = (i : ℕ) × (i < length zs) × (2 ^ 125 ≤ unsigned_abs (slice_index_or zs i (pos 0)))

-- so large that products of what is left stay below 2^128
abbrev pub IsReach : ℕ × ℕ → Type 0
IsReach f = (0 < f.1) × (f.1 < 2 ^ 62)

-- the lines fit the table, and each has a number beside it
pub record KeptFits (kept : KeptTable) : Type 0 where
  pub over : length kept.over ≡ length kept.table.lines
  pub lines : All (IsLine (length kept.table.nonbasic)) kept.table.lines

-- the line at a place has a coefficient below 0 in a column
pub record MayLeave (table : Table) (column place : ℕ) : Type 0 where
  pub within : place < length table.lines
  pub below : coef_at column (line_at table.lines place) <ℤ pos 0

-- no basic variable is below its bound, and this is the answer of the pivot run
pub record StandsAt (rows : RowList) (classed : Classed) (pivots : ℕ) : Type 0 where
  pub full : Table
  pub reaches : PivotsTo rows pivots full
  pub none_below : leaving rows full ≡ None
  pub answer : found_or_large pivots (fractions rows full) ≡ answer_to rows
  pub shows : ShowsFull rows classed full
  pub most : pivots ≤ 2000

-- an answer without amounts
abbrev pub IsNotFound : Solved → Type 0
IsNotFound (solved.Found found) = ⊥
IsNotFound (solved.Refuted verdict) = Unit {0}
IsNotFound (solved.Unsolved stop) = Unit {0}

-- where the pivot run comes to
abbrev pub IsSought : RowList → SolvingEnd → Type 0
IsSought rows (sought.Stands classed pivots) = StandsAt rows classed pivots
IsSought rows (sought.Ends answer) = (answer ≡ answer_to rows) × IsNotFound answer

-- the pivot run ends where amounts are found, and this is kept of its table
pub record EndsFoundAt (rows : RowList) (classed : Classed) (pivots : ℕ) : Type 0 where
  pub full : Table
  pub ends : EndsFound rows pivots full
  pub shows : ShowsFull rows classed full

-- the least run comes to a table, of which this is kept, and to the goal's line
pub record LowersTo (rows : RowList) (goal : Form) (pivots : ℕ) (aimed : Aimed) : Type 0 where
  pub full : Table
  pub run : Lowers rows goal pivots full aimed.line
  pub shows : ShowsFull rows aimed.classed full

-- what a turn of the least run comes to
abbrev pub IsNext : RowList → Form → ℕ → LeastTurn → Type 0
IsNext rows goal pivots (next.Ends answer) = LeastRun rows goal answer
IsNext rows goal pivots (next.Goes after) = LowersTo rows goal (pivots + 1) after × (pivots < 2000)

-- what is kept of a table, and the goal's line, unless a number is too large
abbrev pub IsAimedOrLarge : RowList → Table → TableLine → Option Aimed → Type 0
IsAimedOrLarge rows full line (Some aimed) =
    ShowsFull rows aimed.classed full × (aimed.line ≡ line) × (is_large_with full line ≡ false)
IsAimedOrLarge rows full line None = is_large_with full line ≡ true
