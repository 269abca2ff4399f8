-- A mirror of the code: what is kept beside a table, so that its lines are not added up anew at each turn. No promise
-- stands on it.
use Rattle.std.specs.Prelude.{◌≡◌, ◌<◌, ◌≤◌, Bool, true, false, ℕ, ℤ, pos, ◌<ℤ◌, ◌+ℤ◌, ◌*ℤ◌, ◌-ℤ◌, List, [], ◌∷◌, length, map, slice_set, All, IfSome, Option, Some, None}
use Rattle.std.specs.List.{list_any}
use Rattle.nomos_forms.specs.Bounds.{IsSmall}
use Rattle.nomos_forms.specs.declared.row_list.RowList.{RowList}
use Rattle.nomos_simplex.specs.Divisors.{in_lowest_terms}
use Rattle.nomos_simplex.specs.Exchange.{coef_at, put_into, solved_for, is_large_line, is_large_table}
use Rattle.nomos_simplex.specs.mirror.SkipsZeros.{SkipsZeros}
use Rattle.nomos_simplex.specs.Sizes.{IsNumber, HasNumbers}
use Rattle.nomos_simplex.specs.Tables.{bound_of, sum_at}
use Rattle.nomos_simplex.specs.declared.exchanging.EnteredLine.{EnteredLine}
use Rattle.nomos_simplex.specs.declared.exchanging.PutIn.{PutIn}
use Rattle.nomos_simplex.specs.declared.keeping.KeptTable.{KeptTable}
use Rattle.nomos_simplex.specs.declared.table.TableLine.{TableLine}
use Rattle.nomos_simplex.specs.declared.table.Table.{Table}

-- how far the basic variable of a line is over its bound, times the number before it
abbrev pub over_of : RowList → List ℕ → TableLine → ℤ
over_of rows nonbasic line = sum_at (bound_of rows) nonbasic line.coefs -ℤ line.times *ℤ bound_of rows line.basic

-- the sum of coefficients times bounds
abbrev pub sum_of : List ℤ → List ℤ → ℤ
sum_of [] cs = pos 0
sum_of (b ∷ bs) [] = pos 0
sum_of (b ∷ bs) (c ∷ cs) = c *ℤ b +ℤ sum_of bs cs

-- the same by the bounds of the nonbasic variables
abbrev pub over_by : RowList → List ℤ → TableLine → ℤ
over_by rows bounds line = sum_of bounds line.coefs -ℤ line.times *ℤ bound_of rows line.basic

-- what is kept shows its table: of each line how far its variable is over its bound
abbrev pub Shows : RowList → KeptTable → Type 0
Shows rows kept = kept.over ≡ map (over_of rows kept.table.nonbasic) kept.table.lines

-- ---- an exchange
-- the line that is left has a coefficient over 0 in the column, and there are as many variables as columns
pub record IsEntry (entry : EnteredLine) : Type 0 where
  pub column : entry.column < length entry.left.coefs
  pub left : HasNumbers entry.left
  pub over_zero : pos 0 <ℤ coef_at entry.column entry.left
  pub width : length entry.nonbasic.items ≡ length entry.left.coefs
  pub few : length entry.nonbasic.items ≤ 64
  pub over : IfSome entry.over IsNumber
  pub skips : SkipsZeros entry.next.items entry.left.coefs

-- the nonbasic variables before the exchange
abbrev pub before : EnteredLine → List ℕ
before entry = slice_set entry.nonbasic.items entry.column entry.entering

-- The variable that is left is nonbasic after the exchange. What is kept are the bounds of the nonbasic variables, and
-- how far the variable was over its bound before the exchange.
pub record EntryShows (rows : RowList) (entry : EnteredLine) : Type 0 where
  pub after : entry.nonbasic.items ≡ slice_set (before entry) entry.column entry.left.basic
  pub value : entry.bounds.items ≡ map (bound_of rows) entry.nonbasic.items
  pub small : All IsSmall entry.bounds.items
  pub over : IfSome entry.over (λ over. over ≡ over_of rows (before entry) entry.left)

-- a line with the entering variable put in
abbrev pub entered : EnteredLine → TableLine → TableLine
entered entry line = in_lowest_terms (put_into entry.column entry.left line)

-- what a line has once the entering variable is put in, before lowest terms
pub record IsPut (rows : RowList) (entry : EnteredLine) (line : TableLine) (put : PutIn) : Type 0 where
  pub times : put.times ≡ (put_into entry.column entry.left line).times
  pub over : put.over ≡ over_of rows entry.nonbasic.items (put_into entry.column entry.left line)

-- and that is what it has in lowest terms, where the number before its variable stays the same
abbrev pub IsKeptPut : RowList → EnteredLine → TableLine → PutIn → Type 0
IsKeptPut rows entry made put = put.times ≡ made.times → put.over ≡ over_of rows entry.nonbasic.items made

-- the line that is left, solved for the entering variable
abbrev pub solved_line : EnteredLine → TableLine
solved_line entry = in_lowest_terms (solved_for entry.column entry.entering entry.left)

-- a line, and how far its variable is over its bound, unless a number is too large
abbrev pub IsMade : RowList → EnteredLine → TableLine → TableLine → Option ℤ → Type 0
IsMade rows entry line made (Some over) =
    (made ≡ line) × (over ≡ over_of rows entry.nonbasic.items line) × (is_large_line line ≡ false)
IsMade rows entry line made None = is_large_line line ≡ true

-- the same of lines; the last says whether a number is too large
abbrev pub AreMade : RowList → EnteredLine → List TableLine → List TableLine → List ℤ → Bool → Type 0
AreMade rows entry lines made over false =
    (made ≡ lines) × (over ≡ map (over_of rows entry.nonbasic.items) lines) × (list_any is_large_line lines ≡ false)
AreMade rows entry lines made over true = list_any is_large_line lines ≡ true

-- what is kept of a table, unless a number is too large
abbrev pub IsKeptOrLarge : RowList → Table → Option KeptTable → Type 0
IsKeptOrLarge rows table (Some kept) = (kept.table ≡ table) × Shows rows kept × (is_large_table table ≡ false)
IsKeptOrLarge rows table None = is_large_table table ≡ true
