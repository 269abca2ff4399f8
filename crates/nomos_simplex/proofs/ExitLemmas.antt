-- The exits of the run are right: the amounts meet the rows, and the verdict of a line refutes them.
use Rattle.std.proofs.Common.{◌≡◌, ℕ, ◌+◌, ◌*◌, ◌/◌, ◌<◌, ◌≤◌, ◌^◌, ◌&&◌, Bool, true, false, cond, List, [], ◌∷◌, length, map, get_or, ap, sym, refl, subst, ◌∙◌, arith, ℤ, pos, negsuc, ◌-ℤ◌, ◌*ℤ◌, ◌≤ℤ◌, ◌<ℤ◌, unsigned_abs, All, Some, None}
use Rattle.std.specs.Prelude.{int_lt, nat_le, nat_lt, slice_get}
use Rattle.std.specs.List.{range_with_len, list_all}
use Rattle.std.specs.Int.{◌∣◌}
use Rattle.std.proofs.lemmas.Int.{ints}
use Rattle.std.proofs.lemmas.Bool.{ltb-true, and_parts}
use Rattle.std.proofs.lemmas.List.{get_or-map, get_or_default, length-map}
use Rattle.std.proofs.lemmas.List.Elements.{All-map, All-weaker}
use Rattle.std.proofs.lemmas.List.FromFn.{length-range_with_len, get_or-range_with_len}
use borrow.Author.Differences.{lt_out, at_most_in, below_in, lt-true, lt-false}
use Rattle.nomos_forms.specs.Bounds.{IsFound, IsVerdict}
use Rattle.nomos_forms.specs.Linear.{dot}
use Rattle.nomos_forms.specs.Meeting.{MeetsRows}
use Rattle.nomos_forms.specs.Refuting.{coef_in, least_in, IsOneOf, Refutes, weighted, LeavesNoStar}
use Rattle.nomos_forms.specs.declared.found.Found.{Found}
use Rattle.nomos_forms.specs.declared.row_list.RowList.{RowList}
use Rattle.nomos_forms.specs.declared.verdict.Weight.{Weight}
use Rattle.nomos_forms.proofs.WholeLaws.{times_swap, count_times_le, less_by_times}
use Rattle.nomos_simplex.specs.Exchange.{is_large_line}
use Rattle.nomos_simplex.specs.Exits.{fraction_of, fractions, denominator, common_denominator, amounts_over, found_or_large, with_weight, weights_below, weight_of, of_variable, verdict_of}
use Rattle.nomos_simplex.specs.LowestVariable.{is_below, leaving, entering}
use Rattle.nomos_simplex.specs.Sizes.{IsVariable}
use Rattle.nomos_simplex.specs.Tables.{bound_of, sum_at, HoldsAt}
use Rattle.nomos_simplex.specs.declared.solved.Solved.TheVariants as solved
use Rattle.nomos_simplex.specs.declared.solved.Solved.{Solved}
use Rattle.nomos_simplex.specs.declared.solved.Stop.TheVariants as stop
use Rattle.nomos_simplex.specs.declared.table.TableLine.{TableLine}
use Rattle.nomos_simplex.specs.declared.table.Table.{Table}
use Rattle.nomos_simplex.proofs.AmountLemmas.{NoneBelow, value_of, times_product, product_positive, values_hold, values_high, amount_of, amounts_scaled, fraction_over_zero, common-divided_by_each, common_over_zero, dot_scaled}
use Rattle.nomos_simplex.proofs.CountLemmas.{All-from_map}
use Rattle.nomos_simplex.proofs.ExchangedLemmas.{IsLineIn, at_place}
use Rattle.nomos_simplex.proofs.FirstLemmas.{at_lines_from}
use Rattle.nomos_simplex.proofs.PlaceLemmas.{none_passes}
use Rattle.nomos_simplex.proofs.SignLemmas.{abs_over, abs_positive, minus_itself}
use Rattle.nomos_simplex.proofs.TableLaws.{all_false, all_true, small_line, IsTableOfRows, are_over_zero}
use Rattle.nomos_simplex.proofs.VariableLemmas.{nonbasic-is_variable, basic-is_variable}
use Rattle.nomos_simplex.proofs.VerdictLemmas.{least-of_variable, row-of_variable, variable-is_one_of, All-with_weight, All-weights_below, length-with_weight, length-weights_below, weighted_line, unit_holds}

-- ---- what an answer says is right
abbrev pub IsRightFor : RowList → Solved → Type 0
IsRightFor rows (solved.Found f) = MeetsRows f.stars f.unit rows.rows × IsFound rows.stars f
IsRightFor rows (solved.Refuted v) = Refutes rows.stars rows.rows v × IsVerdict v
IsRightFor rows (solved.Unsolved s) = Unit {0}

-- ---- amounts
pub none_below : (rows : RowList) (table : Table) → leaving rows table ≡ None → NoneBelow rows table
none_below rows table e k d l =
    let line = get_or table.lines k d in
    let no = none_passes (λ i. get_or (map (is_below rows table.nonbasic) table.lines) i false)
    (λ i. get_or (map (λ line. line.basic) table.lines) i 0) (length table.lines) e k l in
    let no' : is_below rows table.nonbasic line ≡ false =
    sym (get_or-map (is_below rows table.nonbasic) table.lines k d false l) ∙ no in
    at_most_in (line.times *ℤ bound_of rows line.basic) (sum_at (bound_of rows) table.nonbasic line.coefs)
    (lt-false (sum_at (bound_of rows) table.nonbasic line.coefs) (line.times *ℤ bound_of rows line.basic) no')

pub map_twice : {X Y Z : Type 0} (g : Y → Z) (f : X → Y) (xs : List X) → map g (map f xs) ≡ map (λ x. g (f x)) xs
map_twice g f [] = refl
map_twice g f (x ∷ xs) = ap (λ zs. g (f x) ∷ zs) (map_twice g f xs)

pub range_within : (n : ℕ) → All (λ v. v ≤ n) (range_with_len 1 n)
range_within n k d l =
    let k' : k < n = omega (arith, length-range_with_len 1 n) in omega (arith, get_or-range_with_len 1 n k d k')

meets : (rows : RowList) (table : Table) → IsTableOfRows rows table → NoneBelow rows table →
    MeetsRows (amounts_over (common_denominator 1 (fractions rows table)) (fractions rows table))
    (common_denominator 1 (fractions rows table)) rows.rows
meets rows table t none k e l =
    let m = times_product table.lines in
    let u = common_denominator 1 (fractions rows table) in
    let y = value_of m rows table in
    let vs = range_with_len 1 rows.stars in
    let row = get_or rows.rows k e in
    let v = rows.stars + 1 + k in
    let ones =
    at_lines_from (HoldsAt y vs) (rows.stars + 1) rows.rows k e l
    (t.true_of_rows y (values_hold (bound_of rows) rows table t.each_once (are_over_zero rows table t))) in
    let divided =
    All-from_map (λ f. denominator f ∣ u) (fraction_of rows table) vs
    (common-divided_by_each 1 (fractions rows table)) in
    let scaled =
    dot_scaled y (amount_of u rows table) (pos u) (pos m) vs row.coefs
    (λ i d h. amounts_scaled rows table u (get_or vs i d) (are_over_zero rows table t) none
    (range_within rows.stars i d h) (divided i d h)) in
    let high =
    count_times_le u (pos m *ℤ bound_of rows v) (y v)
    (values_high rows table v (are_over_zero rows table t) none) in
    let bound : bound_of rows v ≡ row.least = sym (least-of_variable rows v)
    ∙ ap least_in (row-of_variable rows k e l) in
    let amounts = map_twice (λ (f : ℕ × ℕ). u * f.0 / f.1) (fraction_of rows table) vs in
    less_by_times m (pos u *ℤ row.least) (dot row.coefs (amounts_over u (fractions rows table)))
    (product_positive table.lines (are_over_zero rows table t))
    (subst (λ x. x ≤ℤ (pos m *ℤ dot row.coefs (amounts_over u (fractions rows table))))
    (times_swap (pos u) (pos m) (bound_of rows v) ∙ ap (λ x. pos m *ℤ (pos u *ℤ x)) bound)
    (subst (λ x. (pos u *ℤ (pos m *ℤ bound_of rows v)) ≤ℤ x)
    (ap (λ x. pos u *ℤ x) (sym (once (y v)) ∙ ones) ∙ scaled ∙ ap (λ xs. pos m *ℤ dot row.coefs xs) (sym amounts))
    high))
  where
    once : (x : ℤ) → pos 1 *ℤ x ≡ x
    once x = omega (arith, ints)

pub unit_positive : (rows : RowList) (table : Table) → IsTableOfRows rows table → NoneBelow rows table →
    0 < common_denominator 1 (fractions rows table)
unit_positive rows table t none = common_over_zero 1 (fractions rows table) (omega arith)
    (All-map (λ f. 0 < f.1) (fraction_of rows table) (range_with_len 1 rows.stars)
    (λ k d h. fraction_over_zero rows table (get_or (range_with_len 1 rows.stars) k d)
    (are_over_zero rows table t) none (range_within rows.stars k d h)))

amounts_found : (rows : RowList) (table : Table) → IsTableOfRows rows table → NoneBelow rows table →
    list_all (λ x. nat_lt x (2 ^ 62))
    (amounts_over (common_denominator 1 (fractions rows table)) (fractions rows table)) ≡ true →
    IsFound rows.stars
    (record {
      stars = amounts_over (common_denominator 1 (fractions rows table)) (fractions rows table);
      unit =
          common_denominator 1 (fractions rows table);
    })
amounts_found rows table t none passes =
    let fs = fractions rows table in
    let u = common_denominator 1 fs in
    let stars = range_with_len 1 rows.stars in
    record {
      width = length-map fs (λ f. u * f.0 / f.1) ∙ length-map stars (fraction_of rows table)
          ∙ length-range_with_len 1 rows.stars;
      amounts =
          All-weaker (λ x. nat_lt x (2 ^ 62) ≡ true) (λ x. x < 2 ^ 62) (λ x h. ltb-true x (2 ^ 62) h)
          (amounts_over u fs)
          (all_true (λ x. nat_lt x (2 ^ 62)) (amounts_over u fs) passes);
      unit = unit_positive rows table t none;
    }

found_or_none : (rows : RowList) (f : Found) (pivots : ℕ) (t : Bool) →
    (t ≡ true → MeetsRows f.stars f.unit rows.rows × IsFound rows.stars f) →
    IsRightFor rows (cond t (solved.Found f) (solved.Unsolved (stop.Large pivots)))
found_or_none rows f pivots true h = h refl
found_or_none rows f pivots false h = tt

pub found_low : (pivots : ℕ) (rows : RowList) (table : Table) → IsTableOfRows rows table → NoneBelow rows table →
    IsRightFor rows (found_or_large pivots (fractions rows table))
found_low pivots rows table t none =
    let fs = fractions rows table in
    let u = common_denominator 1 fs in
    let no_large = list_all (λ x. nat_lt x (2 ^ 62)) (amounts_over u fs) in
    found_or_none rows (record { stars = amounts_over u fs; unit = u }) pivots (nat_le u (2 ^ 31) && no_large)
    (λ passes.
    (meets rows table t none, amounts_found rows table t none (and_parts (nat_le u (2 ^ 31)) no_large passes).1))

pub found_exit : (pivots : ℕ) (rows : RowList) (table : Table) → IsTableOfRows rows table →
    leaving rows table ≡ None → IsRightFor rows (found_or_large pivots (fractions rows table))
found_exit pivots rows table t e = found_low pivots rows table t (none_below rows table e)

-- ---- a verdict
no_positive : (table : Table) (line : TableLine) → length line.coefs ≡ length table.nonbasic
    → entering table line ≡ None →
    All (λ c. c ≤ℤ pos 0) line.coefs
no_positive table line w e k d l =
    let no = none_passes (λ j. int_lt (pos 0) (get_or line.coefs j (pos 0))) (λ j. get_or table.nonbasic j 0)
    (length table.nonbasic) e k (omega arith) in
    subst (λ c. c ≤ℤ pos 0) (get_or_default line.coefs k (pos 0) d l)
    (at_most_in (get_or line.coefs k (pos 0)) (pos 0) (lt-false (pos 0) (get_or line.coefs k (pos 0)) no))

pub abs_of_below : (c : ℤ) → int_lt c (pos 0) ≡ true → 0 < unsigned_abs c
abs_of_below (pos c) e = absurd (omega (arith, lt-true (pos c) (pos 0) e))
abs_of_below (negsuc c) e = omega arith

minus_over : (a b : ℤ) → a <ℤ b → pos 0 <ℤ (b -ℤ a)
minus_over a b h = below_in (pos 0) (b -ℤ a) (omega (arith, ints, lt_out a b h))

-- what is known of the line that ends the run
pub record EndsAt (rows : RowList) (table : Table) (i : ℕ) (line : TableLine) : Type 0 where
  pub place : slice_get table.lines i ≡ Some line
  pub below : is_below rows table.nonbasic line ≡ true
  pub none : entering table line ≡ None

-- its width, its sign, and that none of its coefficients is over 0
record IsLastLine (table : Table) (line : TableLine) : Type 0 where
  width : length line.coefs ≡ length table.nonbasic
  over : pos 0 <ℤ line.times
  none : All (λ c. c ≤ℤ pos 0) line.coefs

last_line : (rows : RowList) (table : Table) (i : ℕ) (line : TableLine) → IsTableOfRows rows table →
    EndsAt rows table i line → IsLastLine table line
last_line rows table i line t h =
    let own = at_place (IsLineIn table) table.lines i line h.place t.lines in
    record { width = own.width; over = own.over; none = no_positive table line own.width h.none }

-- what holds of the weight of the basic variable, and of those of the nonbasic ones, holds of each weight
weights_are : (P : Weight → Type 0) (rows : RowList) (table : Table) (line : TableLine) → IsLastLine table line →
    P (weight_of rows (line.basic, unsigned_abs line.times)) →
    ((k : ℕ) → k < length table.nonbasic → int_lt (get_or line.coefs k (pos 0)) (pos 0) ≡ true →
    P (weight_of rows (get_or table.nonbasic k 0, unsigned_abs (get_or line.coefs k (pos 0))))) →
    All P (verdict_of rows table line).weights
weights_are P rows table line own basic each =
    All-with_weight P rows (line.basic, unsigned_abs line.times) (weights_below table.nonbasic line.coefs) basic
    (All-weights_below P rows table.nonbasic line.coefs own.width each)

gap_over_zero : (rows : RowList) (table : Table) (line : TableLine) → is_below rows table.nonbasic line ≡ true →
    pos 0 <ℤ (line.times *ℤ bound_of rows line.basic -ℤ sum_at (bound_of rows) table.nonbasic line.coefs)
gap_over_zero rows table line h =
    let low = sum_at (bound_of rows) table.nonbasic line.coefs in
    let high = line.times *ℤ bound_of rows line.basic in
    minus_over low high (below_in low high (lt-true low high h))

weights_of : (rows : RowList) (table : Table) (i : ℕ) (line : TableLine) → IsTableOfRows rows table →
    EndsAt rows table i line → All (λ w. IsOneOf rows.stars rows.rows w.of) (verdict_of rows table line).weights
weights_of rows table i line t h =
    let basic =
    at_place (λ line. IsVariable rows line.basic) table.lines i line h.place
    (basic-is_variable rows table t.each_once) in
    weights_are (λ w. IsOneOf rows.stars rows.rows w.of) rows table line (last_line rows table i line t h)
    (variable-is_one_of rows line.basic basic.0 basic.1)
    (λ k l e. let v =
    nonbasic-is_variable rows table t.each_once k 0 l in variable-is_one_of rows (get_or table.nonbasic k 0) v.0
    v.1)

weights_positive : (rows : RowList) (table : Table) (line : TableLine) → IsLastLine table line →
    All (λ w. 0 < w.times) (verdict_of rows table line).weights
weights_positive rows table line own =
    weights_are (λ w. 0 < w.times) rows table line own (abs_positive line.times own.over)
    (λ k l e. abs_of_below (get_or line.coefs k (pos 0)) e)

-- the line holds where each variable has what it has of a star: so nothing of the star is left
weights_cancel : (rows : RowList) (table : Table) (i : ℕ) (line : TableLine) → IsTableOfRows rows table →
    EndsAt rows table i line → LeavesNoStar rows.stars (verdict_of rows table line).weights
weights_cancel rows table i line t h star from to =
    let own = last_line rows table i line t h in
    let y = λ (v : ℕ). coef_in star (of_variable rows v) in
    weighted_line rows (coef_in star) table.nonbasic line own.over own.none
    ∙ minus_itself (line.times *ℤ y line.basic) (sum_at y table.nonbasic line.coefs)
    (at_place (HoldsAt y table.nonbasic) table.lines i line h.place
    (t.true_of y (unit_holds rows star from to (λ k e l. (rows.each k e l).width))))

weights_give : (rows : RowList) (table : Table) (line : TableLine) → IsLastLine table line →
    is_below rows table.nonbasic line ≡ true →
    weighted least_in (verdict_of rows table line).weights ≡ pos (verdict_of rows table line).gives
weights_give rows table line own below =
    let low = sum_at (bound_of rows) table.nonbasic line.coefs in
    weighted_line rows least_in table.nonbasic line own.over own.none
    ∙ (λ p. line.times *ℤ least-of_variable rows line.basic p -ℤ sum_at (λ v. least-of_variable rows v p)
    table.nonbasic line.coefs)
    ∙ sym (abs_over (line.times *ℤ bound_of rows line.basic -ℤ low) (gap_over_zero rows table line below))

pub verdict-refutes : (rows : RowList) (table : Table) (i : ℕ) (line : TableLine) → IsTableOfRows rows table →
    EndsAt rows table i line → Refutes rows.stars rows.rows (verdict_of rows table line)
verdict-refutes rows table i line t h =
    let own = last_line rows table i line t h in
    let gap = line.times *ℤ bound_of rows line.basic -ℤ sum_at (bound_of rows) table.nonbasic line.coefs in
    record {
      of = weights_of rows table i line t h;
      positive = weights_positive rows table line own;
      no_star = weights_cancel rows table i line t h;
      gives = weights_give rows table line own h.below;
      over_zero = abs_positive gap (gap_over_zero rows table line h.below);
    }

pub verdict-is_verdict : (rows : RowList) (table : Table) (i : ℕ) (line : TableLine) → IsTableOfRows rows table →
    EndsAt rows table i line → IsVerdict (verdict_of rows table line)
verdict-is_verdict rows table i line t h =
    let own = last_line rows table i line t h in
    let small =
    small_line
    line (at_place (λ line. is_large_line line ≡ false) table.lines i line h.place
    (all_false is_large_line table.lines t.small)) in
    let w : ℕ × ℕ = (line.basic, unsigned_abs line.times) in
    let ws = weights_below table.nonbasic line.coefs in
    record {
      count = omega (
        arith,
        rows.few_stars,
        t.stars,
        length-map (with_weight w ws) (weight_of rows),
        length-with_weight w ws,
        length-weights_below table.nonbasic line.coefs,
      );
      times = weights_are (λ w. w.times < 2 ^ 62) rows table line own small.times
          (λ k l e. small.coefs k (pos 0) (omega (arith, own.width)));
    }

pub verdict_exit : (rows : RowList) (table : Table) (i : ℕ) (line : TableLine) → IsTableOfRows rows table →
    EndsAt rows table i line → IsRightFor rows (solved.Refuted (verdict_of rows table line))
verdict_exit rows table i line t h = (verdict-refutes rows table i line t h, verdict-is_verdict rows table i line t h)
