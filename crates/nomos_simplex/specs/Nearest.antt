-- The choice of variables that lowers a goal.
use Rattle.std.specs.Prelude.{ℕ, ◌*◌, nat_lt, Bool, true, false, pos, ◌*ℤ◌, ◌-ℤ◌, unsigned_abs, int_lt, List, [], length, slice_index, slice_index_or, Option, if◌then◌else◌}
use Rattle.nomos_forms.specs.declared.row_list.RowList.{RowList}
use Rattle.nomos_simplex.specs.Exchange.{coef_at}
use Rattle.nomos_simplex.specs.LowestVariable.{lowest_place, foremost_place}
use Rattle.nomos_simplex.specs.Tables.{bound_of, sum_at}
use Rattle.nomos_simplex.specs.declared.table.TableLine.{TableLine}
use Rattle.nomos_simplex.specs.declared.table.Table.{Table}

-- the column of the lowest nonbasic variable with a coefficient below 0 in the goal's line
abbrev pub lowering : Table → TableLine → Option ℕ
lowering table line =
    lowest_place
    (λ j. int_lt (slice_index_or line.coefs j (pos 0)) (pos 0))
    (λ j. slice_index table.nonbasic j)
    (length table.nonbasic)

-- how far the variable of a line is from its bound, times the number before it
abbrev pub distance : RowList → List ℕ → TableLine → ℕ
distance rows nonbasic line =
    unsigned_abs (line.times *ℤ bound_of rows line.basic -ℤ sum_at (bound_of rows) nonbasic line.coefs)

-- its distance divided by the size of the coefficient in column j, as a fraction: both are over the number before the
-- variable, which falls out
abbrev pub reach : RowList → List ℕ → ℕ → TableLine → ℕ × ℕ
reach rows nonbasic j line = (distance rows nonbasic line, unsigned_abs (coef_at j line))

abbrev pub is_less : ℕ × ℕ → ℕ × ℕ → Bool
is_less f g = nat_lt (f.0 * g.1) (g.0 * f.1)

-- the line with the less reach comes first, and of two with the same that of the lower variable
abbrev pub is_nearer : RowList → List ℕ → ℕ → TableLine → TableLine → Bool
is_nearer rows nonbasic j x y =
    if is_less (reach rows nonbasic j x) (reach rows nonbasic j y) then true
    else if is_less (reach rows nonbasic j y) (reach rows nonbasic j x) then false else nat_lt x.basic y.basic

-- the line at a place
abbrev pub line_at : List TableLine → ℕ → TableLine
line_at lines i = slice_index_or lines i (record { times = pos 1; basic = 0; coefs = [] })

-- of the lines with a coefficient below 0 in column j, the one that comes first
abbrev pub nearest : RowList → Table → ℕ → Option ℕ
nearest rows table j =
    foremost_place
    (λ i. int_lt (coef_at j (line_at table.lines i)) (pos 0))
    (λ i k. is_nearer rows table.nonbasic j (line_at table.lines i) (line_at table.lines k))
    (length table.lines)
