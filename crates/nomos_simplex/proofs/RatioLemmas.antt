-- The line that comes first is left: so no basic variable falls below its bound.
use Rattle.std.proofs.Common.{◌≡◌, ℕ, zero, suc, ◌*◌, ◌<◌, ◌≤◌, Bool, true, false, cond, List, length, map, get_or, set, refl, ap, sym, subst, ◌∙◌, arith, ℤ, pos, negsuc, neg_ℤ, ◌+ℤ◌, ◌-ℤ◌, ◌*ℤ◌, ◌≤ℤ◌, ◌<ℤ◌, unsigned_abs, int_lt, int_div, Some}
use Rattle.std.specs.Prelude.{nat_lt}
use Rattle.std.proofs.lemmas.Int.{ints}
use Rattle.std.proofs.lemmas.Bool.{ltb-true, ltb-false}
use Rattle.std.proofs.lemmas.List.{length-map, get_or-map, get_or_default}
use Rattle.std.proofs.lemmas.Option.{get_or_from_slice_get}
use Rattle.std.proofs.Math.IntN.{*ℤ_comm}
use Rattle.std.proofs.Math.Nat.{mul-le-mul_left}
use native.Mathlib.Nat.{pos_of_dvd_of_pos}
use borrow.Author.Differences.{le_out, lt_out, at_most_in, below_in}
use Rattle.nomos_forms.specs.declared.row_list.RowList.{RowList}
use Rattle.nomos_forms.proofs.WholeLaws.{neg_times, times_assoc, less_by_times}
use Rattle.nomos_simplex.proofs.ExitLemmas.{abs_of_below}
use Rattle.nomos_simplex.specs.Divisors.{common, signed_like, in_lowest_terms}
use Rattle.nomos_simplex.specs.Exchange.{coef_at, solved_for, put_into, exchanged}
use Rattle.nomos_simplex.specs.Nearest.{distance, reach, is_less, is_nearer, line_at, nearest}
use Rattle.nomos_simplex.specs.Tables.{bound_of, sum_at}
use Rattle.nomos_simplex.specs.declared.table.TableLine.{TableLine}
use Rattle.nomos_simplex.specs.declared.table.Table.{Table}
use Rattle.nomos_simplex.proofs.AmountLemmas.{NoneBelow}
use Rattle.nomos_simplex.proofs.DivisorLemmas.{common_divides_first}
use Rattle.nomos_simplex.proofs.ExchangeLemmas.{lowest_divides, put_sum_free}
use Rattle.nomos_simplex.proofs.ExchangedLemmas.{MayExchange, IsLineIn, All-exchanged, at_place}
use Rattle.nomos_simplex.proofs.PlaceLemmas.{foremost-at_most}
use Rattle.nomos_simplex.proofs.SumLemmas.{sum_set, sum_neg, sum_scaled, times_minus}

-- ---- the nearest line: its reach is at most that of each other line with a coefficient below 0
unfoldable pub AtMost : ℕ × ℕ → ℕ × ℕ → Type 0
AtMost f g = f.0 * g.1 ≤ g.0 * f.1

pub through : (f g h : ℕ × ℕ) → 0 < g.1 → AtMost f g → AtMost g h → AtMost f h
unfolding AtMost
through f g h p i j = cancel g.1 (f.0 * h.1) (h.0 * f.1) p
    (let a = mul-le-mul_left h.1 i in let b = mul-le-mul_left f.1 j in omega arith)
  where
    cancel : (g a b : ℕ) → 0 < g → g * a ≤ g * b → a ≤ b
    cancel g a b p h =
        at_most_nat (less_by_times g (pos a) (pos b) p (at_most_in (pos (g * a)) (pos (g * b)) (omega arith)))
      where
        at_most_nat : pos a ≤ℤ pos b → a ≤ b
        at_most_nat l = omega (arith, le_out (pos a) (pos b) l)

pub not_less : (f g : ℕ × ℕ) → is_less f g ≡ false → AtMost g f
unfolding AtMost
not_less f g e = ltb-false (f.0 * g.1) (g.0 * f.1) e

pub less : (f g : ℕ × ℕ) → is_less f g ≡ true → AtMost f g
unfolding AtMost
less f g e = omega (arith, ltb-true (f.0 * g.1) (g.0 * f.1) e)

module _ (rows : RowList) (nonbasic : List ℕ) (j : ℕ) where
  nearer_true : (x y : TableLine) (s t : Bool) → is_less (reach rows nonbasic j x) (reach rows nonbasic j y) ≡ s →
      is_less (reach rows nonbasic j y) (reach rows nonbasic j x) ≡ t →
      cond s true (cond t false (nat_lt x.basic y.basic)) ≡ true →
      AtMost (reach rows nonbasic j x) (reach rows nonbasic j y)
  nearer_true x y true t e f h = less (reach rows nonbasic j x) (reach rows nonbasic j y) e
  nearer_true x y false true e f h = cc
  nearer_true x y false false e f h = not_less (reach rows nonbasic j y) (reach rows nonbasic j x) f

  nearer_false : (x y : TableLine) (s t : Bool) → is_less (reach rows nonbasic j x) (reach rows nonbasic j y) ≡ s →
      cond s true (cond t false (nat_lt x.basic y.basic)) ≡ false →
      AtMost (reach rows nonbasic j y) (reach rows nonbasic j x)
  nearer_false x y true t e h = cc
  nearer_false x y false t e h = not_less (reach rows nonbasic j x) (reach rows nonbasic j y) e

pub nearest-at_most : (rows : RowList) (table : Table) (j i : ℕ) → nearest rows table j ≡ Some i → (k : ℕ) →
    k < length table.lines → int_lt (coef_at j (line_at table.lines k)) (pos 0) ≡ true →
    (reach rows table.nonbasic j (line_at table.lines i)).0 * (reach rows table.nonbasic j (line_at table.lines k)).1 ≤
    (reach rows table.nonbasic j (line_at table.lines k)).0 * (reach rows table.nonbasic j (line_at table.lines i)).1
unfolding AtMost
nearest-at_most rows table j i e k l pass =
    let of = λ (n : ℕ). reach rows table.nonbasic j (line_at table.lines n) in
    foremost-at_most (λ n. int_lt (coef_at j (line_at table.lines n)) (pos 0))
    (λ n m. is_nearer rows table.nonbasic j (line_at table.lines n) (line_at table.lines m))
    (λ n m. AtMost (of n) (of m))
    (λ n. omega arith)
    (λ n m h. nearer_true rows table.nonbasic j (line_at table.lines n) (line_at table.lines m)
    (is_less (of n) (of m)) (is_less (of m) (of n)) refl refl h)
    (λ n m h. nearer_false rows table.nonbasic j (line_at table.lines n) (line_at table.lines m)
    (is_less (of n) (of m)) (is_less (of m) (of n)) refl h)
    (λ n m o p a b. through (of n) (of m) (of o) (abs_of_below (coef_at j (line_at table.lines m)) p) a b)
    (length table.lines) i e k l pass

-- ---- a line at the bounds
-- the variable of a line is not below its bound
abbrev pub IsNotBelow : (ℕ → ℤ) → List ℕ → TableLine → Type 0
IsNotBelow b vs line = (line.times *ℤ b line.basic) ≤ℤ sum_at b vs line.coefs

-- where the number before the variable is below 0, the order is turned
lowest_not_below : (b : ℕ → ℤ) (vs : List ℕ) (line : TableLine) → line.times <ℤ pos 0 →
    sum_at b vs line.coefs ≤ℤ (line.times *ℤ b line.basic) → IsNotBelow b vs (in_lowest_terms line)
lowest_not_below b vs line under h =
    let g = common (unsigned_abs line.times) line.coefs in
    let d = signed_like line.times g in
    let n : ¬ (line.times ≡ pos 0) = λ e. omega (arith, ints, lt_out line.times (pos 0) under) in
    let parts = lowest_divides line n in
    let over : 0 < g = pos_of_dvd_of_pos (common_divides_first (unsigned_abs line.times) line.coefs)
    (abs_under line.times under) in
    let sign : d ≡ neg_ℤ (pos g) = signed_under line.times g under in
    let times = int_div line.times d in
    let coefs = map (λ c. int_div c d) line.coefs in
    let left : d *ℤ (times *ℤ b line.basic) ≡ line.times *ℤ b line.basic = sym (times_assoc d times (b line.basic))
    ∙ ap (λ z. z *ℤ b line.basic) (*ℤ_comm d times ∙ parts.times) in
    let right = sum_scaled b d (λ c. int_div c d) vs line.coefs parts.coefs in
    less_by_times g (times *ℤ b line.basic) (sum_at b vs coefs) over
    (turn (pos g *ℤ (times *ℤ b line.basic)) (pos g *ℤ sum_at b vs coefs) (line.times *ℤ b line.basic)
    (sum_at b vs line.coefs)
    (sym (neg_times (pos g) (times *ℤ b line.basic)) ∙ ap (λ z. z *ℤ (times *ℤ b line.basic)) (sym sign) ∙ left)
    (sym (neg_times (pos g) (sum_at b vs coefs)) ∙ ap (λ z. z *ℤ sum_at b vs coefs) (sym sign) ∙ right) h)
  where
    abs_under : (z : ℤ) → z <ℤ pos 0 → 0 < unsigned_abs z
    abs_under (pos z) h = absurd (omega (arith, lt_out (pos z) (pos 0) h))
    abs_under (negsuc z) h = omega arith

    signed_under : (z : ℤ) (g : ℕ) → z <ℤ pos 0 → signed_like z g ≡ neg_ℤ (pos g)
    signed_under (pos z) g h = absurd (omega (arith, lt_out (pos z) (pos 0) h))
    signed_under (negsuc z) g h = refl

    turn : (x y u v : ℤ) → neg_ℤ x ≡ u → neg_ℤ y ≡ v → v ≤ℤ u → x ≤ℤ y
    turn x y u v e f h = at_most_in x y (omega (arith, ints, le_out v u h))

-- ---- the lines after the exchange
-- p times how far a line is over its bound is at most its coefficient times how far the one that is left is
cross_signs : (p g : ℤ) (n m : ℕ) → p <ℤ pos 0 → (int_lt g (pos 0) ≡ true → n * unsigned_abs g ≤ m * unsigned_abs p) →
    (p *ℤ pos m) ≤ℤ (g *ℤ pos n)
cross_signs (pos p) g n m under h = absurd (omega (arith, lt_out (pos p) (pos 0) under))
cross_signs (negsuc p) (pos g) n m under h =
    at_most_in (negsuc p *ℤ pos m) (pos g *ℤ pos n)
    (omega (arith, ints, neg_times (pos (suc p)) (pos m)))
cross_signs (negsuc p) (negsuc g) n m under h =
    let le : n * suc g ≤ m * suc p = h refl in
    at_most_in (negsuc p *ℤ pos m) (negsuc g *ℤ pos n)
    (omega (arith, ints, neg_times (pos (suc p)) (pos m), neg_times (pos (suc g)) (pos n)))

-- how far a variable that is not below its bound is from it
pub from_bound : (t s : ℤ) → t ≤ℤ s → pos (unsigned_abs (t -ℤ s)) ≡ s -ℤ t
from_bound t s h = of_sign (t -ℤ s) (omega (arith, ints, le_out t s h)) ∙ turned t s
  where
    of_sign : (z : ℤ) → z ≤ℤ pos 0 → pos (unsigned_abs z) ≡ neg_ℤ z
    of_sign (pos zero) h = refl
    of_sign (pos (suc z)) h = absurd (omega (arith, le_out (pos (suc z)) (pos 0) h))
    of_sign (negsuc z) h = refl

    turned : (t s : ℤ) → neg_ℤ (t -ℤ s) ≡ s -ℤ t
    turned t s = omega (arith, ints)

put_low : (p g s tb gap e f : ℤ) → e ≡ s -ℤ tb → f ≡ gap → (p *ℤ e) ≤ℤ (g *ℤ f) → (p *ℤ s -ℤ g *ℤ gap) ≤ℤ (p *ℤ tb)
put_low p g s tb gap e f h i le =
    let whole : p *ℤ e ≡ p *ℤ s -ℤ p *ℤ tb = ap (λ z. p *ℤ z) h ∙ times_minus p s tb in
    let other : g *ℤ f ≡ g *ℤ gap = ap (λ z. g *ℤ z) i in
    at_most_in (p *ℤ s -ℤ g *ℤ gap) (p *ℤ tb)
    (omega (arith, ints, whole, other, le_out (p *ℤ e) (g *ℤ f) le))

solved_low : (new pe x sl tb u v : ℤ) → new +ℤ u ≡ v +ℤ tb → u ≡ neg_ℤ pe → v ≡ neg_ℤ sl → tb ≤ℤ sl → new ≤ℤ pe
solved_low new pe x sl tb u v h i j le = at_most_in new pe (omega (arith, ints, le_out tb sl le))

under_product : (p t : ℤ) → p <ℤ pos 0 → pos 0 <ℤ t → (p *ℤ t) <ℤ pos 0
under_product (pos p) t h i = absurd (omega (arith, lt_out (pos p) (pos 0) h))
under_product (negsuc p) (pos zero) h i = absurd (omega (arith, lt_out (pos 0) (pos 0) i))
under_product (negsuc p) (pos (suc t)) h i = below_in (negsuc p *ℤ pos (suc t)) (pos 0) (omega (arith, ints))
under_product (negsuc p) (negsuc t) h i = absurd (omega (arith, lt_out (pos 0) (negsuc t) i))

-- line i is left for column j, where its coefficient is below 0
pub record IsLowered (rows : RowList) (table : Table) (i j : ℕ) (left : TableLine) : Type 0 where
  pub may : MayExchange i j left table
  pub under : coef_at j left <ℤ pos 0
  pub nearest : nearest rows table j ≡ Some i

module _ (rows : RowList) (table : Table) (i j : ℕ) (left : TableLine) (m : IsLowered rows table i j left)
    (none : NoneBelow rows table) where
  left_is : line_at table.lines i ≡ left
  left_is = get_or_from_slice_get table.lines i left _ m.may.place

  left_low : IsNotBelow (bound_of rows) table.nonbasic left
  left_low = at_place (IsNotBelow (bound_of rows) table.nonbasic) table.lines i left m.may.place none

  left_in : IsLineIn table left
  left_in = at_place (IsLineIn table) table.lines i left m.may.place m.may.lines

  line_low : (k : ℕ) (d : TableLine) → k < length table.lines →
      IsNotBelow (bound_of rows) (set table.nonbasic j left.basic)
      (in_lowest_terms (put_into j left (get_or table.lines k d)))
  line_low k d l =
      let b = bound_of rows in
      let vs = table.nonbasic in
      let line = get_or table.lines k d in
      let is : line_at table.lines k ≡ line = get_or_default table.lines k _ d l in
      let p = coef_at j left in
      let g = coef_at j line in
      let own = m.may.lines k d l in
      let low = none k d l in
      let here = left_in in
      let column : j < length left.coefs = subst (λ n. j < n) (sym here.width) m.may.column in
      let n = distance rows vs left in
      let far = distance rows vs line in
      let cross = cross_signs p g n far m.under
      (λ e. subst (λ x. n * unsigned_abs (coef_at j x) ≤ distance rows vs x * unsigned_abs p) is
      (subst (λ x. distance rows vs x * unsigned_abs (coef_at j (line_at table.lines k)) ≤
      distance rows vs (line_at table.lines k) * unsigned_abs (coef_at j x)) left_is
      (nearest-at_most rows table j i m.nearest k l
      (subst (λ x. int_lt (coef_at j x) (pos 0) ≡ true) (sym is) e)))) in
      let sum = sum_at b vs line.coefs in
      let gap = sum_at b vs left.coefs -ℤ left.times *ℤ b left.basic in
      let less_than = put_low p g sum (line.times *ℤ b line.basic) gap (pos far) (pos n)
      (from_bound (line.times *ℤ b line.basic) sum low)
      (from_bound (left.times *ℤ b left.basic) (sum_at b vs left.coefs) left_low) cross in
      lowest_not_below b (set vs j left.basic) (put_into j left line) (under_product p line.times m.under own.over)
      (subst (λ z. z ≤ℤ ((p *ℤ line.times) *ℤ b line.basic))
      (sym (put_sum_free b vs j left line m.may.column column (own.width ∙ sym here.width)))
      (subst (λ z. (p *ℤ sum -ℤ g *ℤ gap) ≤ℤ z) (sym (times_assoc p line.times (b line.basic))) less_than))

  entered_low : IsNotBelow (bound_of rows) (set table.nonbasic j left.basic)
      (in_lowest_terms (solved_for j (get_or table.nonbasic j 0) left))
  entered_low =
      let b = bound_of rows in
      let vs = table.nonbasic in
      let here = left_in in
      let column : j < length left.coefs = subst (λ n. j < n) (sym here.width) m.may.column in
      let e = get_or vs j 0 in
      let p = coef_at j left in
      lowest_not_below b (set vs j left.basic) (solved_for j e left) m.under
      (solved_low (sum_at b (set vs j left.basic) (set (map neg_ℤ left.coefs) j left.times)) (p *ℤ b e) (pos 0)
      (sum_at b vs left.coefs) (left.times *ℤ b left.basic) (get_or (map neg_ℤ left.coefs) j (pos 0) *ℤ b e)
      (sum_at b vs (map neg_ℤ left.coefs))
      (sum_set b vs (map neg_ℤ left.coefs) j left.basic left.times m.may.column
      (subst (λ n. j < n) (sym (length-map left.coefs neg_ℤ)) column))
      (ap (λ z. z *ℤ b e) (get_or-map neg_ℤ left.coefs j (pos 0) (pos 0) column) ∙ neg_times p (b e))
      (sum_neg b vs left.coefs) left_low)

  -- no basic variable is below its bound
  pub lowered-none_below : NoneBelow rows (exchanged i j left table)
  lowered-none_below = All-exchanged (IsNotBelow (bound_of rows) (set table.nonbasic j left.basic)) i j left table
      (λ k d l. line_low k d l) entered_low
