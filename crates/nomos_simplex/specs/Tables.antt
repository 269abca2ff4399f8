-- Tables: variables and their bounds, sums over the nonbasic variables, the table at first.
use Rattle.std.specs.Prelude.{◌≡◌, ◌+◌, ◌-◌, ℕ, nat_le, ℤ, pos, ◌+ℤ◌, ◌*ℤ◌, List, [], ◌∷◌, if◌then◌else◌, All, Option, Some, None, slice_get}
use Rattle.std.specs.List.{range_with_len}
use Rattle.nomos_forms.specs.declared.row.Row.{Row}
use Rattle.nomos_forms.specs.declared.row_list.RowList.{RowList}
use Rattle.nomos_simplex.specs.declared.table.TableLine.{TableLine}
use Rattle.nomos_simplex.specs.declared.table.Table.{Table}

-- the least of a row, 0 where there is none
abbrev pub least_or_zero : Option Row → ℤ
least_or_zero (Some row) = row.least
least_or_zero None = pos 0

-- the lower bound of a variable: 0 of a star, the row's least of a row's sum
abbrev pub bound_of : RowList → ℕ → ℤ
bound_of rows v = if nat_le v rows.stars then pos 0 else least_or_zero (slice_get rows.rows (v - rows.stars - 1))

-- the sum of coefficients times what the variables have
abbrev pub sum_at : (ℕ → ℤ) → List ℕ → List ℤ → ℤ
sum_at y [] cs = pos 0
sum_at y (v ∷ vs) [] = pos 0
sum_at y (v ∷ vs) (c ∷ cs) = c *ℤ y v +ℤ sum_at y vs cs

-- a line is true of what the variables have
abbrev pub HoldsAt : (ℕ → ℤ) → List ℕ → TableLine → Type 0
HoldsAt y nonbasic line = line.times *ℤ y line.basic ≡ sum_at y nonbasic line.coefs

-- each line is
abbrev pub Holds : (ℕ → ℤ) → Table → Type 0
Holds y table = All (HoldsAt y table.nonbasic) table.lines

-- the lines of rows, whose sums have the numbers from v on
abbrev pub lines_from : ℕ → List Row → List TableLine
lines_from v [] = []
lines_from v (row ∷ rows) = record { times = pos 1; basic = v; coefs = row.coefs } ∷ lines_from (v + 1) rows

-- at first the stars are nonbasic, and the sums of the rows basic
abbrev pub first_table : RowList → Table
first_table rows = record {
  nonbasic = range_with_len 1 rows.stars;
  lines = lines_from (rows.stars + 1) rows.rows;
}
