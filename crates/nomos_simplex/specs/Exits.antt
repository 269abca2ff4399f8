-- The exits of the run: amounts that were found, and the verdict of a line.
use Rattle.std.specs.Prelude.{◌≡◌, ◌<◌, ◌≤◌, true, false, Vec, ℕ, ◌*◌, ◌/◌, ◌-◌, ◌^◌, nat_le, nat_lt, ◌==◌, ◌&&◌, ℤ, pos, ◌*ℤ◌, ◌-ℤ◌, unsigned_abs, int_lt, List, [], ◌∷◌, map, Option, Some, None, slice_get, find, if◌then◌else◌}
use Rattle.std.specs.List.{list_all, range_with_len}
use Rattle.std.specs.Global.{Global}
use Rattle.nomos_forms.specs.declared.row.Row.{Row}
use Rattle.nomos_forms.specs.declared.row_list.RowList.{RowList}
use Rattle.nomos_forms.specs.declared.verdict.Of.{Of}
use Rattle.nomos_forms.specs.declared.verdict.Of.TheVariants as of
use Rattle.nomos_forms.specs.declared.verdict.Weight.{Weight}
use Rattle.nomos_forms.specs.declared.verdict.Verdict.{Verdict}
use Rattle.nomos_simplex.specs.Divisors.{gcd, lcm}
use Rattle.nomos_simplex.specs.Tables.{bound_of, sum_at}
use Rattle.nomos_simplex.specs.declared.solved.Solved.{Solved}
use Rattle.nomos_simplex.specs.declared.solved.Solved.TheVariants as solved
use Rattle.nomos_simplex.specs.declared.solved.Stop.TheVariants as stop
use Rattle.nomos_simplex.specs.declared.table.TableLine.{TableLine}
use Rattle.nomos_simplex.specs.declared.table.Table.{Table}

-- what a star is, as a fraction that is not below 0: from its line, or 0 where it is nonbasic
abbrev pub fraction_in : RowList → List ℕ → Option TableLine → ℕ × ℕ
fraction_in rows nonbasic (Some line) =
    (unsigned_abs (sum_at (bound_of rows) nonbasic line.coefs), unsigned_abs line.times)
fraction_in rows nonbasic None = (0, 1)

abbrev pub fraction_of : RowList → Table → ℕ → ℕ × ℕ
fraction_of rows table star = fraction_in rows table.nonbasic (find (λ line. line.basic == star) table.lines)

abbrev pub fractions : RowList → Table → List (ℕ × ℕ)
fractions rows table = map (fraction_of rows table) (range_with_len 1 rows.stars)

-- the denominator of a fraction in lowest terms
abbrev pub denominator : ℕ × ℕ → ℕ
denominator f = f.1 / gcd f.1 f.0

-- the least common multiple of a number and the denominators
abbrev pub common_denominator : ℕ → List (ℕ × ℕ) → ℕ
common_denominator unit [] = unit
common_denominator unit (f ∷ fs) = common_denominator (lcm unit (denominator f)) fs

-- fractions, counted in parts of which one has `unit`
abbrev pub amounts_over : ℕ → List (ℕ × ℕ) → List ℕ
amounts_over unit fs = map (λ f. unit * f.0 / f.1) fs

-- so large that products stay below 2^128, with a part that is over 0
abbrev pub IsFraction : ℕ × ℕ → Type 0
IsFraction f = (f.0 ≤ 2 ^ 113) × (0 < f.1) × (f.1 < 2 ^ 62)

-- the amounts, where none is 2^62 or more, and otherwise nothing
abbrev pub AreAmounts : ℕ → List (ℕ × ℕ) → Option (Vec ℕ Global) → Type 0
AreAmounts unit fs (Some v) =
    (v.items ≡ amounts_over unit fs) × (list_all (λ x. nat_lt x (2 ^ 62)) (amounts_over unit fs) ≡ true)
AreAmounts unit fs None = list_all (λ x. nat_lt x (2 ^ 62)) (amounts_over unit fs) ≡ false

-- the amounts, where they and the unit are not too large
abbrev pub found_or_large : ℕ → List (ℕ × ℕ) → Solved
found_or_large pivots fs =
    let unit = common_denominator 1 fs in
    if nat_le unit (2 ^ 31) && list_all (λ x. nat_lt x (2 ^ 62)) (amounts_over unit fs) then
    solved.Found (record { stars = amounts_over unit fs; unit = unit })
    else solved.Unsolved (stop.Large pivots)

-- a weight and the number of its variable; weights stand in order of these numbers
abbrev pub with_weight : ℕ × ℕ → List (ℕ × ℕ) → List (ℕ × ℕ)
with_weight w [] = w ∷ []
with_weight w (x ∷ xs) = if nat_lt x.0 w.0 then x ∷ with_weight w xs else w ∷ x ∷ xs

-- the nonbasic variables with a coefficient below 0, weighted with it
abbrev pub weights_below : List ℕ → List ℤ → List (ℕ × ℕ)
weights_below [] cs = []
weights_below (v ∷ vs) [] = []
weights_below (v ∷ vs) (c ∷ cs) =
    if int_lt c (pos 0) then with_weight (v, unsigned_abs c) (weights_below vs cs) else weights_below vs cs

-- what a variable stands for: the bound of a star, or a row
abbrev pub row_or_star : ℕ → Option Row → Of
row_or_star v (Some row) = of.Row row
row_or_star v None = of.Star v

abbrev pub of_variable : RowList → ℕ → Of
of_variable rows v = if nat_le v rows.stars then of.Star v else row_or_star v (slice_get rows.rows (v - rows.stars - 1))

abbrev pub weight_of : RowList → ℕ × ℕ → Weight
weight_of rows w = record { times = w.1; of = of_variable rows w.0 }

-- what a line says whose variable is below its bound, and that has no coefficient over 0
abbrev pub verdict_of : RowList → Table → TableLine → Verdict
verdict_of rows table line = record {
  weights =
      map (weight_of rows)
      (with_weight (line.basic, unsigned_abs line.times) (weights_below table.nonbasic line.coefs));
  gives = unsigned_abs (line.times *ℤ bound_of rows line.basic -ℤ sum_at (bound_of rows) table.nonbasic line.coefs);
}
