-- The amounts found: exact over their unit, and with the sums of the rows a valuation that makes each line true.
use Rattle.std.proofs.Common.{◌≡◌, ◌==◌, ℕ, zero, suc, ◌-◌, ◌*◌, ◌/◌, ◌<◌, ◌≤◌, Bool, true, false, cond, List, [], ◌∷◌, length, map, get_or, ap, sym, refl, subst, ◌∙◌, arith, ℤ, pos, negsuc, ◌+ℤ◌, ◌*ℤ◌, ◌≤ℤ◌, ◌<ℤ◌, unsigned_abs, All, Option, Some, None, ◌⊎◌, inl, inr, ⊎_elim}
use Rattle.std.specs.Prelude.{nat_le, slice_get}
use Rattle.std.specs.List.{find}
use Rattle.std.specs.Int.{◌∣◌}
use Rattle.std.proofs.lemmas.Bool.{cond-true, le-leb, cases_lt, eqb-true, eq-eqb}
use Rattle.std.proofs.lemmas.List.Elements.{All-nil, All-cons, All-head, All-tail, All-weaker}
use Rattle.std.proofs.lemmas.Nat.Gcd.{dvd_refl, dvd_trans}
use Rattle.std.proofs.Math.IntN.{*ℤ-zero, *ℤ_comm}
use Rattle.std.proofs.Math.Nat.{div-one}
use native.Mathlib.Nat.{one-dvd, dvd-mul_left, dvd-mul_right, dvd-mul_left_of_dvd, mul-dvd-mul, div-mul_cancel}
use borrow.Author.Differences.{le_out, at_most_in}
use Rattle.nomos_forms.specs.Linear.{dot}
use Rattle.nomos_forms.specs.declared.row_list.RowList.{RowList}
use Rattle.nomos_forms.proofs.WholeLaws.{times_sum, times_assoc, times_swap, count_times_le}
use Rattle.nomos_simplex.proofs.FractionLemmas.{first_divides_lcm}
use Rattle.nomos_simplex.specs.Divisors.{gcd, lcm}
use Rattle.nomos_simplex.specs.Exits.{fraction_in, fraction_of, denominator, common_denominator}
use Rattle.nomos_simplex.specs.Tables.{least_or_zero, bound_of, sum_at, Holds}
use Rattle.nomos_simplex.specs.declared.table.TableLine.{TableLine}
use Rattle.nomos_simplex.specs.declared.table.Table.{Table}
use Rattle.nomos_simplex.proofs.CountLemmas.{counted}
use Rattle.nomos_simplex.proofs.DivisorLemmas.{gcd_is}
use Rattle.nomos_simplex.proofs.SignLemmas.{abs_over, abs_positive}
use Rattle.nomos_simplex.proofs.SumLemmas.{sum_times_all}
use Rattle.nomos_simplex.proofs.VariableLemmas.{HasEachOnce, not_found, finds}

-- ---- the unit: a multiple of each denominator
pub part_over_zero : (a g : ℕ) → 0 < a → g ∣ a → 0 < a / g
part_over_zero a g h d =
    let e = div-mul_cancel g d in ⊎_elim (λ l. l) (λ z. absurd (no_part (a / g) (omega arith) e)) (cases_lt 0 (a / g))
  where
    no_part : (q : ℕ) → q ≡ 0 → q * g ≡ a → ⊥
    no_part q z e = let n : q * g ≡ 0 = ap (λ k. k * g) z ∙ omega arith in omega arith

lcm_right : (a b : ℕ) → b ∣ lcm a b
lcm_right a b = dvd-mul_left b (a / gcd a b)

product_over_zero : (a b : ℕ) → 0 < a → 0 < b → 0 < a * b
product_over_zero (suc a) (suc b) h i = omega arith
product_over_zero zero b h i = absurd (omega arith)
product_over_zero (suc a) zero h i = absurd (omega arith)

lcm_over_zero : (a b : ℕ) → 0 < a → 0 < b → 0 < lcm a b
lcm_over_zero a b h i = product_over_zero (a / gcd a b) b (part_over_zero a (gcd a b) h (gcd_is a b).0) i

pub common-divided : (u : ℕ) (fs : List (ℕ × ℕ)) → u ∣ common_denominator u fs
common-divided u [] = dvd_refl u
common-divided u (f ∷ fs) =
    dvd_trans u (first_divides_lcm u (denominator f)) (common-divided (lcm u (denominator f)) fs)

pub common-divided_by_each : (u : ℕ) (fs : List (ℕ × ℕ)) → All (λ f. denominator f ∣ common_denominator u fs) fs
common-divided_by_each u [] = All-nil (λ f. denominator f ∣ u)
common-divided_by_each u (f ∷ fs) =
    let w = lcm u (denominator f) in
    All-cons (λ g. denominator g ∣ common_denominator (lcm u (denominator f)) fs) f fs
    (dvd_trans (denominator f) (lcm_right u (denominator f)) (common-divided w fs)) (common-divided_by_each w fs)

pub common_over_zero : (u : ℕ) (fs : List (ℕ × ℕ)) → 0 < u → All (λ f. 0 < f.1) fs → 0 < common_denominator u fs
common_over_zero u [] h each = h
common_over_zero u (f ∷ fs) h each =
    let d = All-head (λ f. 0 < f.1) f fs each in
    common_over_zero (lcm u (denominator f)) fs
    (lcm_over_zero u (denominator f) h (part_over_zero f.1 (gcd f.1 f.0) d (gcd_is f.1 f.0).0))
    (All-tail (λ f. 0 < f.1) f fs each)

-- an amount over it is exact
pub amount_exact : (u : ℕ) (f : ℕ × ℕ) → denominator f ∣ u → u * f.0 / f.1 * f.1 ≡ u * f.0
amount_exact u f h =
    let g = gcd f.1 f.0 in
    let whole : f.1 / g * g ≡ f.1 = div-mul_cancel g (gcd_is f.1 f.0).0 in
    div-mul_cancel f.1 (subst (λ n. n ∣ u * f.0) whole (mul-dvd-mul (f.1 / g) g h (gcd_is f.1 f.0).1))

-- ---- a multiple of all numbers before basic variables
abbrev pub times_product : List TableLine → ℕ
times_product [] = 1
times_product (line ∷ lines) = unsigned_abs line.times * times_product lines

pub product-divided : (lines : List TableLine) → All (λ line. unsigned_abs line.times ∣ times_product lines) lines
product-divided [] = All-nil (λ line. unsigned_abs line.times ∣ 1)
product-divided (line ∷ lines) =
    All-cons (λ other. unsigned_abs other.times ∣ unsigned_abs line.times * times_product lines) line lines
    (dvd-mul_right (unsigned_abs line.times) (times_product lines))
    (All-weaker (λ other. unsigned_abs other.times ∣ times_product lines)
    (λ other. unsigned_abs other.times ∣ unsigned_abs line.times * times_product lines)
    (λ other h. dvd-mul_left_of_dvd (unsigned_abs other.times) h (unsigned_abs line.times)) lines
    (product-divided lines))

pub product_positive : (lines : List TableLine) → All (λ line. pos 0 <ℤ line.times) lines → 0 < times_product lines
product_positive [] h = omega arith
product_positive (line ∷ lines) h =
    product_over_zero (unsigned_abs line.times) (times_product lines)
    (abs_positive line.times (All-head (λ line. pos 0 <ℤ line.times) line lines h))
    (product_positive lines (All-tail (λ line. pos 0 <ℤ line.times) line lines h))

-- each number before a basic variable is over 0
abbrev pub AreOverZero : Table → Type 0
AreOverZero table = All (λ line. pos 0 <ℤ line.times) table.lines

-- ---- what a variable has, m times, where the nonbasic ones have what b says
abbrev pub value_from : ℕ → (ℕ → ℤ) → List ℕ → ℕ → Option TableLine → ℤ
value_from m b vs v (Some line) = pos (m / unsigned_abs line.times) *ℤ sum_at b vs line.coefs
value_from m b vs v None = pos m *ℤ b v

abbrev pub value_under : ℕ → (ℕ → ℤ) → Table → ℕ → ℤ
value_under m b table v = value_from m b table.nonbasic v (find (λ line. line.basic == v) table.lines)

-- at the bounds
abbrev pub value_of : ℕ → RowList → Table → ℕ → ℤ
value_of m rows table v = value_under m (bound_of rows) table v

pub value-nonbasic : (m : ℕ) (b : ℕ → ℤ) (rows : RowList) (table : Table) → HasEachOnce rows table →
    All (λ v. value_under m b table v ≡ pos m *ℤ b v) table.nonbasic
value-nonbasic m b rows table h k d l =
    let v = get_or table.nonbasic k d in
    let one = counted (λ w. w == v) table.nonbasic k d l (eq-eqb v v refl) in
    let once = h.once v in
    ap (value_from m b table.nonbasic v) (not_found v table.lines (omega arith))

pub value-basic : (m : ℕ) (b : ℕ → ℤ) (rows : RowList) (table : Table) (k : ℕ) (d : TableLine) → HasEachOnce rows table
    →
    k < length table.lines →
    value_under m b table (get_or table.lines k d).basic ≡ pos
    (m / unsigned_abs (get_or table.lines k d).times) *ℤ sum_at b table.nonbasic
    (get_or table.lines k d).coefs
value-basic m b rows table k d h l =
    let v = (get_or table.lines k d).basic in
    let once = h.once v in
    ap (value_from m b table.nonbasic v) (finds v table.lines k d l refl (omega arith))

times_part : (t : ℤ) (m : ℕ) (s : ℤ) → pos 0 <ℤ t → unsigned_abs t ∣ m →
    t *ℤ (pos (m / unsigned_abs t) *ℤ s) ≡ pos m *ℤ s
times_part t m s over d =
    sym (times_assoc t (pos (m / unsigned_abs t)) s)
    ∙ ap (λ x. x *ℤ s)
    (ap (λ x. x *ℤ pos (m / unsigned_abs t)) (sym (abs_over t over))
    ∙ *ℤ_comm (pos (unsigned_abs t)) (pos (m / unsigned_abs t)) ∙ ap pos (div-mul_cancel (unsigned_abs t) d))

-- each line is true of these
pub values_hold : (b : ℕ → ℤ) (rows : RowList) (table : Table) → HasEachOnce rows table → AreOverZero table →
    Holds (value_under (times_product table.lines) b table) table
values_hold b rows table h over k d l =
    let m = times_product table.lines in
    let line = get_or table.lines k d in
    ap (λ x. line.times *ℤ x) (value-basic m b rows table k d h l)
    ∙ times_part line.times m (sum_at b table.nonbasic line.coefs) (over k d l)
    (product-divided table.lines k d l)
    ∙ sym (sum_times_all b (value_under m b table) (pos m) table.nonbasic line.coefs
    (value-nonbasic m b rows table h))

-- ---- none is below its bound
abbrev pub NoneBelow : RowList → Table → Type 0
NoneBelow rows table =
    All (λ line. (line.times *ℤ bound_of rows line.basic) ≤ℤ sum_at (bound_of rows) table.nonbasic line.coefs)
    table.lines

found_step : (p : TableLine → Bool) (x line : TableLine) (t : Bool) (o : Option TableLine) → p x ≡ t →
    cond t (Some x) o ≡ Some line → ((x ≡ line) × (p x ≡ true)) ⊎ (o ≡ Some line)
found_step p x line true o e h = inl (cc, e)
found_step p x line false o e h = inr h

pub found_passes : (P : TableLine → Type 0) (p : TableLine → Bool) (lines : List TableLine) (line : TableLine)
    → All P lines →
    find p lines ≡ Some line → P line × (p line ≡ true)
found_passes P p [] line all e = cc
found_passes P p (x ∷ lines) line all e = ⊎_elim
    (λ here. (subst P here.0 (All-head P x lines all), subst (λ y. p y ≡ true) here.0 here.1))
    (λ there. found_passes P p lines line (All-tail P x lines all) there)
    (found_step p x line (p x) (find p lines) refl e)

-- the line that a variable has, if it is basic
record IsLineOf (rows : RowList) (table : Table) (v : ℕ) (line : TableLine) : Type 0 where
  basic : line.basic ≡ v
  over : pos 0 <ℤ line.times
  divides : unsigned_abs line.times ∣ times_product table.lines
  low : (line.times *ℤ bound_of rows line.basic) ≤ℤ sum_at (bound_of rows) table.nonbasic line.coefs

line_of : (rows : RowList) (table : Table) (v : ℕ) (line : TableLine) → AreOverZero table → NoneBelow rows table →
    find (λ line. line.basic == v) table.lines ≡ Some line → IsLineOf rows table v line
line_of rows table v line over none e =
    let a = found_passes (λ line. pos 0 <ℤ line.times) (λ line. line.basic == v) table.lines line over e in
    let b = found_passes (λ line. unsigned_abs line.times ∣ times_product table.lines) (λ line. line.basic == v)
    table.lines line (product-divided table.lines) e in
    let c = found_passes
    (λ line. (line.times *ℤ bound_of rows line.basic) ≤ℤ sum_at (bound_of rows) table.nonbasic line.coefs)
    (λ line. line.basic == v) table.lines line none e in
    record { basic = eqb-true line.basic v a.1; over = a.0; divides = b.0; low = c.0 }

le_same : (a : ℤ) → a ≤ℤ a
le_same a = at_most_in a a (omega arith)

low_in : (rows : RowList) (table : Table) (v : ℕ) (o : Option TableLine) →
    ((line : TableLine) → o ≡ Some line → IsLineOf rows table v line) →
    (pos (times_product table.lines) *ℤ bound_of rows v) ≤ℤ value_from (times_product table.lines) (bound_of rows)
    table.nonbasic v o
low_in rows table v None h = le_same (pos (times_product table.lines) *ℤ bound_of rows v)
low_in rows table v (Some line) h =
    let m = times_product table.lines in
    let is = h line refl in
    let part = m / unsigned_abs line.times in
    let s = sum_at (bound_of rows) table.nonbasic line.coefs in
    subst (λ x. x ≤ℤ (pos part *ℤ s))
    (times_swap (pos part) line.times (bound_of rows line.basic)
    ∙ times_part line.times m (bound_of rows line.basic) is.over is.divides
    ∙ ap (λ w. pos m *ℤ bound_of rows w) is.basic)
    (count_times_le part (line.times *ℤ bound_of rows line.basic) s is.low)

pub values_high : (rows : RowList) (table : Table) (v : ℕ) → AreOverZero table → NoneBelow rows table →
    (pos (times_product table.lines) *ℤ bound_of rows v) ≤ℤ value_of (times_product table.lines) rows table v
values_high rows table v over none =
    low_in rows table v (find (λ line. line.basic == v) table.lines) (λ line e. line_of rows table v line over none e)

-- ---- the fractions of the stars
-- a star alone has nothing at the bounds
pub star_bound : (rows : RowList) (v : ℕ) → v ≤ rows.stars → bound_of rows v ≡ pos 0
star_bound rows v h =
    cond-true (nat_le v rows.stars) (pos 0) (least_or_zero (slice_get rows.rows (v - rows.stars - 1)))
    (le-leb v rows.stars h)

abs_from_low : (t b s : ℤ) → b ≡ pos 0 → (t *ℤ b) ≤ℤ s → pos (unsigned_abs s) ≡ s
abs_from_low t b (pos s) e h = refl
abs_from_low t b (negsuc s) e h =
    let low : pos 0 ≤ℤ negsuc s = subst (λ x. x ≤ℤ negsuc s) (ap (λ x. t *ℤ x) e ∙ *ℤ-zero t) h in
    absurd (omega (arith, le_out (pos 0) (negsuc s) low))

-- a fraction has a divisor over 0, and is what the star has
record IsFractionOf (rows : RowList) (table : Table) (v : ℕ) (f : ℕ × ℕ) (x : ℤ) : Type 0 where
  over : 0 < f.1
  divides : f.1 ∣ times_product table.lines
  value : x ≡ pos (times_product table.lines / f.1) *ℤ pos f.0

fraction_is : (rows : RowList) (table : Table) (v : ℕ) (o : Option TableLine) → v ≤ rows.stars →
    ((line : TableLine) → o ≡ Some line → IsLineOf rows table v line) →
    IsFractionOf rows table v (fraction_in rows table.nonbasic o)
    (value_from (times_product table.lines) (bound_of rows) table.nonbasic v o)
fraction_is rows table v None few h = record {
  over = omega arith;
  divides = one-dvd (times_product table.lines);
  value = ap (λ x. pos (times_product table.lines) *ℤ x) (star_bound rows v few)
      ∙ ap (λ n. pos n *ℤ pos 0) (sym (div-one (times_product table.lines)));
}
fraction_is rows table v (Some line) few h =
    let is = h line refl in
    let s = sum_at (bound_of rows) table.nonbasic line.coefs in
    record {
      over = abs_positive line.times is.over;
      divides = is.divides;
      value = ap (λ x. pos (times_product table.lines / unsigned_abs line.times) *ℤ x)
          (sym (abs_from_low line.times (bound_of rows line.basic) s
          (ap (bound_of rows) is.basic ∙ star_bound rows v few) is.low));
    }

-- u times what a star has is m times its amount
in_parts : (u m q a d n : ℕ) → a * d ≡ u * n → q * d ≡ m → pos u *ℤ (pos q *ℤ pos n) ≡ pos m *ℤ pos a
in_parts u m q a d n h i = ap pos (swap u q n ∙ ap (λ x. q * x) (sym h) ∙ around q a d ∙ ap (λ x. x * a) i)
  where
    swap : (u q n : ℕ) → u * (q * n) ≡ q * (u * n)
    swap u q n = omega arith

    around : (q a d : ℕ) → q * (a * d) ≡ q * d * a
    around q a d = omega arith

abbrev pub amount_of : ℕ → RowList → Table → ℕ → ℕ
amount_of u rows table v = u * (fraction_of rows table v).0 / (fraction_of rows table v).1

pub amounts_scaled : (rows : RowList) (table : Table) (u v : ℕ) → AreOverZero table → NoneBelow rows table →
    v ≤ rows.stars → denominator (fraction_of rows table v) ∣ u →
    pos u *ℤ value_of (times_product table.lines) rows table v ≡ pos (times_product table.lines) *ℤ pos
    (amount_of u rows table v)
amounts_scaled rows table u v over none few d =
    let f = fraction_of rows table v in
    let m = times_product table.lines in
    let is = fraction_is rows table v (find (λ line. line.basic == v) table.lines) few
    (λ line e. line_of rows table v line over none e) in
    ap (λ x. pos u *ℤ x) is.value
    ∙ in_parts u m (m / f.1) (u * f.0 / f.1) f.1 f.0 (amount_exact u f d) (div-mul_cancel f.1 is.divides)

pub fraction_over_zero : (rows : RowList) (table : Table) (v : ℕ) → AreOverZero table → NoneBelow rows table →
    v ≤ rows.stars → 0 < (fraction_of rows table v).1
fraction_over_zero rows table v over none few =
    (fraction_is rows table v (find (λ line. line.basic == v) table.lines) few
    (λ line e. line_of rows table v line over none e)).over

-- ---- the sum of a row
both_parts : (u c x m h s t : ℤ) → u *ℤ (c *ℤ x) ≡ m *ℤ (h *ℤ c) → u *ℤ s ≡ m *ℤ t →
    u *ℤ (c *ℤ x +ℤ s) ≡ m *ℤ (h *ℤ c +ℤ t)
both_parts u c x m h s t e i = times_sum u (c *ℤ x) s ∙ (λ p. e p +ℤ i p) ∙ sym (times_sum m (h *ℤ c) t)

pub dot_scaled : (y : ℕ → ℤ) (h : ℕ → ℕ) (u m : ℤ) (vs : List ℕ) (cs : List ℤ) →
    All (λ v. u *ℤ y v ≡ m *ℤ pos (h v)) vs → u *ℤ sum_at y vs cs ≡ m *ℤ dot cs (map h vs)
dot_scaled y h u m [] [] all = *ℤ-zero u ∙ sym (*ℤ-zero m)
dot_scaled y h u m [] (c ∷ cs) all = *ℤ-zero u ∙ sym (*ℤ-zero m)
dot_scaled y h u m (v ∷ vs) [] all = *ℤ-zero u ∙ sym (*ℤ-zero m)
dot_scaled y h u m (v ∷ vs) (c ∷ cs) all =
    both_parts u c (y v) m (pos (h v)) (sum_at y vs cs) (dot cs (map h vs))
    (times_swap u c (y v) ∙ ap (λ x. c *ℤ x) (All-head (λ v. u *ℤ y v ≡ m *ℤ pos (h v)) v vs all)
    ∙ times_swap c m (pos (h v)) ∙ ap (λ x. m *ℤ x) (*ℤ_comm c (pos (h v))))
    (dot_scaled y h u m vs cs (All-tail (λ v. u *ℤ y v ≡ m *ℤ pos (h v)) v vs all))
