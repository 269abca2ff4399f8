-- The choice of variables: always the one with the lowest number.
use Rattle.std.specs.Prelude.{ℕ, zero, suc, nat_lt, Bool, false, pos, ◌*ℤ◌, int_lt, List, length, map, slice_index, slice_index_or, Option, Some, None, if◌then◌else◌}
use Rattle.nomos_forms.specs.declared.row_list.RowList.{RowList}
use Rattle.nomos_simplex.specs.Tables.{bound_of, sum_at}
use Rattle.nomos_simplex.specs.declared.table.TableLine.{TableLine}
use Rattle.nomos_simplex.specs.declared.table.Table.{Table}

-- the one of two places that comes first
abbrev pub former_of : (ℕ → ℕ → Bool) → ℕ → Option ℕ → ℕ
former_of is_former n None = n
former_of is_former n (Some m) = if is_former n m then n else m

-- the place below n that comes first among those that pass
abbrev pub foremost_place : (ℕ → Bool) → (ℕ → ℕ → Bool) → ℕ → Option ℕ
foremost_place passes is_former zero = None
foremost_place passes is_former (suc n) =
    let before = foremost_place passes is_former n in
    if passes n then Some (former_of is_former n before) else before

-- the one of two places that has the lower number
abbrev pub lower_of : (ℕ → ℕ) → ℕ → Option ℕ → ℕ
lower_of number n before = former_of (λ i k. nat_lt (number i) (number k)) n before

-- the place below n with the lowest number among those that pass
abbrev pub lowest_place : (ℕ → Bool) → (ℕ → ℕ) → ℕ → Option ℕ
lowest_place passes number n = foremost_place passes (λ i k. nat_lt (number i) (number k)) n

-- with the nonbasic variables at their bounds, the basic variable of a line is below its own
abbrev pub is_below : RowList → List ℕ → TableLine → Bool
is_below rows nonbasic line =
    int_lt (sum_at (bound_of rows) nonbasic line.coefs) (line.times *ℤ bound_of rows line.basic)

-- the line of the lowest basic variable below its bound
abbrev pub leaving : RowList → Table → Option ℕ
leaving rows table =
    lowest_place
    (λ i. slice_index_or (map (is_below rows table.nonbasic) table.lines) i false)
    (λ i. slice_index (map (λ line. line.basic) table.lines) i)
    (length table.lines)

-- the column of the lowest nonbasic variable with a coefficient over 0
abbrev pub entering : Table → TableLine → Option ℕ
entering table line =
    lowest_place
    (λ j. int_lt (pos 0) (slice_index_or line.coefs j (pos 0)))
    (λ j. slice_index table.nonbasic j)
    (length table.nonbasic)
