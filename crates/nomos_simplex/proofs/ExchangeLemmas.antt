-- A line in lowest terms, solved for another variable, or with a solved variable put in, holds where it held before.
use Rattle.std.proofs.Common.{◌≡◌, ℕ, ◌*◌, zero, suc, ◌<◌, ◌↔◌, List, length, map, get_or, set, ap, sym, refl, subst, ◌∙◌, arith, ℤ, pos, negsuc, ◌+ℤ◌, ◌-ℤ◌, ◌*ℤ◌, neg_ℤ, ◌<ℤ◌, unsigned_abs, All}
use Rattle.std.specs.Prelude.{int_div}
use Rattle.std.specs.Int.{◌∣◌}
use Rattle.std.proofs.lemmas.Int.{ints, unsigned_abs-mul}
use Rattle.std.proofs.lemmas.List.{get_or-map, length-map, length-set}
use Rattle.std.proofs.lemmas.List.Elements.{All-weaker}
use Rattle.std.proofs.Math.IntN.{*ℤ-zero, *ℤ_comm}
use native.Mathlib.Nat.{pos_of_dvd_of_pos, mul-dvd-mul_right, dvd_of_mul-dvd-mul_right, eq-one_of_dvd-one}
use Rattle.nomos_forms.proofs.WholeLaws.{times_assoc, neg_times, no_product_zero}
use Rattle.nomos_simplex.proofs.LineLemmas.{length-eliminated}
use Rattle.nomos_simplex.specs.Divisors.{common, signed_like, divided_by, in_lowest_terms}
use Rattle.nomos_simplex.specs.Exchange.{coef_at, solved_for, eliminated, put_into}
use Rattle.nomos_simplex.specs.Sizes.{IsLowest}
use Rattle.nomos_simplex.specs.Tables.{sum_at, HoldsAt}
use Rattle.nomos_simplex.specs.declared.table.TableLine.{TableLine}
use Rattle.nomos_simplex.proofs.CountLemmas.{All-from_map}
use Rattle.nomos_simplex.proofs.DivisorLemmas.{common_divides_first}
use Rattle.nomos_simplex.proofs.GcdLemmas.{common_divides_each, divides_common, exact_whole, abs_signed, quotient_over_zero}
use Rattle.nomos_simplex.proofs.SignLemmas.{minus_itself}
use Rattle.nomos_simplex.proofs.SumLemmas.{sum_set, sum_neg, sum_eliminated, sum_scaled, times_minus, get_or-eliminated}

-- ---- what is not 0
same_from_minus : (a b : ℤ) → a -ℤ b ≡ pos 0 → a ≡ b
same_from_minus a b h = omega (arith, ints)

pub cancel : (d a b : ℤ) → ¬ (d ≡ pos 0) → d *ℤ a ≡ d *ℤ b → a ≡ b
cancel d a b n h =
    same_from_minus a b (no_product_zero d (a -ℤ b) n (times_minus d a b ∙ minus_itself (d *ℤ a) (d *ℤ b) h))

pub not_zero_product : (a b : ℤ) → ¬ (a ≡ pos 0) → ¬ (b ≡ pos 0) → ¬ (a *ℤ b ≡ pos 0)
not_zero_product a b n m h = m (no_product_zero a b n h)

abs_over_zero : (a : ℤ) → ¬ (a ≡ pos 0) → 0 < unsigned_abs a
abs_over_zero (pos zero) n = absurd (n refl)
abs_over_zero (pos (suc a)) n = omega arith
abs_over_zero (negsuc a) n = omega arith

abs_not_zero : (a : ℤ) → 0 < unsigned_abs a → ¬ (a ≡ pos 0)
abs_not_zero a h e = let z = ap unsigned_abs e in omega arith

-- ---- lowest terms
pub record Divides (d : ℤ) (line : TableLine) : Type 0 where
  pub other : ¬ (d ≡ pos 0)
  pub times : int_div line.times d *ℤ d ≡ line.times
  pub coefs : All (λ c. int_div c d *ℤ d ≡ c) line.coefs

pub lowest_divides : (line : TableLine) → ¬ (line.times ≡ pos 0) →
    Divides (signed_like line.times (common (unsigned_abs line.times) line.coefs)) line
lowest_divides line n =
    let g = common (unsigned_abs line.times) line.coefs in
    let d = signed_like line.times g in
    let size : unsigned_abs d ≡ g = abs_signed line.times g in
    let whole = common_divides_first (unsigned_abs line.times) line.coefs in
    let over = pos_of_dvd_of_pos whole (abs_over_zero line.times n) in
    record {
      other = abs_not_zero d (subst (λ k. 0 < k) (sym size) over);
      times = exact_whole line.times d (subst (λ k. k ∣ unsigned_abs line.times) (sym size) whole);
      coefs = All-weaker (λ c. g ∣ unsigned_abs c) (λ c. int_div c d *ℤ d ≡ c)
          (λ c h. exact_whole c d (subst (λ k. k ∣ unsigned_abs c) (sym size) h)) line.coefs
          (common_divides_each (unsigned_abs line.times) line.coefs);
    }

-- a line is true of a value for its own variable, beside what the others have
abbrev pub HoldsFor : ℤ → (ℕ → ℤ) → List ℕ → TableLine → Type 0
HoldsFor w y vs line = line.times *ℤ w ≡ sum_at y vs line.coefs

divided_holds : (w : ℤ) (y : ℕ → ℤ) (vs : List ℕ) (d : ℤ) (line : TableLine) → Divides d line →
    HoldsFor w y vs (divided_by d line) ↔ HoldsFor w y vs line
divided_holds w y vs d line h =
    let left : d *ℤ (int_div line.times d *ℤ w) ≡ line.times *ℤ w =
    sym (times_assoc d (int_div line.times d) w)
    ∙ ap (λ z. z *ℤ w) (*ℤ_comm d (int_div line.times d) ∙ h.times) in
    let right = sum_scaled y d (λ c. int_div c d) vs line.coefs h.coefs in (
      (λ e. sym left ∙ ap (λ z. d *ℤ z) e ∙ right),
      (λ e. cancel d (int_div line.times d *ℤ w) (sum_at y vs (map (λ c. int_div c d) line.coefs))
          h.other (left ∙ e ∙ sym right)),
    )

pub lowest_holds_for : (w : ℤ) (y : ℕ → ℤ) (vs : List ℕ) (line : TableLine) → ¬ (line.times ≡ pos 0) →
    HoldsFor w y vs (in_lowest_terms line) ↔ HoldsFor w y vs line
lowest_holds_for w y vs line n =
    divided_holds w y vs (signed_like line.times (common (unsigned_abs line.times) line.coefs)) line
    (lowest_divides line n)

pub lowest_holds : (y : ℕ → ℤ) (vs : List ℕ) (line : TableLine) → ¬ (line.times ≡ pos 0) →
    HoldsAt y vs (in_lowest_terms line) ↔ HoldsAt y vs line
lowest_holds y vs line n = lowest_holds_for (y line.basic) y vs line n

pub lowest_over_zero : (line : TableLine) → ¬ (line.times ≡ pos 0) → pos 0 <ℤ (in_lowest_terms line).times
lowest_over_zero line n =
    let g = common (unsigned_abs line.times) line.coefs in
    let h = lowest_divides line n in
    quotient_over_zero (int_div line.times (signed_like line.times g)) line.times g
    (pos_of_dvd_of_pos (common_divides_first (unsigned_abs line.times) line.coefs) (abs_over_zero line.times n)) n
    h.times

-- no common divisor is left
times_divides : (k g a b : ℕ) → a * g ≡ b → k ∣ a → k * g ∣ b
times_divides k g a b e h = subst (λ n. k * g ∣ n) e (mul-dvd-mul_right k h g)

pub divisor_left : (k g : ℕ) → 0 < g → k * g ∣ g → k ≡ 1
divisor_left k g h d = eq-one_of_dvd-one (dvd_of_mul-dvd-mul_right k {n = 1} h (subst (λ n. k * g ∣ n) (one_times g) d))
  where
    one_times : (g : ℕ) → g ≡ 1 * g
    one_times g = omega arith

abs_times : (q d z : ℤ) (g : ℕ) → unsigned_abs d ≡ g → q *ℤ d ≡ z → unsigned_abs q * g ≡ unsigned_abs z
abs_times q d z g e h = ap (λ n. unsigned_abs q * n) (sym e) ∙ sym (unsigned_abs-mul q d) ∙ ap unsigned_abs h

pub lowest-is_lowest : (line : TableLine) → ¬ (line.times ≡ pos 0) → IsLowest (in_lowest_terms line)
lowest-is_lowest line n =
    let g = common (unsigned_abs line.times) line.coefs in
    let d = signed_like line.times g in
    let size : unsigned_abs d ≡ g = abs_signed line.times g in
    let h = lowest_divides line n in
    let over =
    pos_of_dvd_of_pos (common_divides_first (unsigned_abs line.times) line.coefs) (abs_over_zero line.times n) in
    let times = int_div line.times d in
    let coefs = map (λ c. int_div c d) line.coefs in
    let k = common (unsigned_abs times) coefs in
    let each =
    All-from_map (λ c. k ∣ unsigned_abs c) (λ c. int_div c d) line.coefs
    (common_divides_each (unsigned_abs times) coefs) in
    divisor_left k g over
    (divides_common (k * g) (unsigned_abs line.times) line.coefs
    (times_divides k g (unsigned_abs times) (unsigned_abs line.times)
    (abs_times times d line.times g size h.times) (common_divides_first (unsigned_abs times) coefs))
    (λ i e l. let c =
    get_or line.coefs i e in times_divides k g (unsigned_abs (int_div c d)) (unsigned_abs c)
    (abs_times (int_div c d) d c g size (h.coefs i e l)) (each i e l)))

pub lowest_width : (line : TableLine) → length (in_lowest_terms line).coefs ≡ length line.coefs
lowest_width line = length-map line.coefs _

-- ---- the line that is left
solved_in : (new pe s tb u v : ℤ) → new +ℤ u ≡ v +ℤ tb → u ≡ neg_ℤ pe → v ≡ neg_ℤ s → (pe ≡ new) ↔ (tb ≡ s)
solved_in new pe s tb u v h i j = (there, back)
  where
    there : pe ≡ new → tb ≡ s
    there e = omega (arith, ints)

    back : tb ≡ s → pe ≡ new
    back e = omega (arith, ints)

pub solved_holds : (y : ℕ → ℤ) (vs : List ℕ) (j : ℕ) (line : TableLine) → j < length vs → j < length line.coefs →
    HoldsAt y (set vs j line.basic) (solved_for j (get_or vs j 0) line) ↔ HoldsAt y vs line
solved_holds y vs j line h i =
    let e = get_or vs j 0 in
    solved_in (sum_at y (set vs j line.basic) (set (map neg_ℤ line.coefs) j line.times))
    (get_or line.coefs j (pos 0) *ℤ y e) (sum_at y vs line.coefs) (line.times *ℤ y line.basic)
    (get_or (map neg_ℤ line.coefs) j (pos 0) *ℤ y e) (sum_at y vs (map neg_ℤ line.coefs))
    (sum_set y vs (map neg_ℤ line.coefs) j line.basic line.times h (omega (arith, length-map line.coefs neg_ℤ)))
    (ap (λ z. z *ℤ y e) (get_or-map neg_ℤ line.coefs j (pos 0) (pos 0) i)
    ∙ neg_times (get_or line.coefs j (pos 0)) (y e))
    (sum_neg y vs line.coefs)

-- ---- another line
put_in : (new u v w pa gc : ℤ) → new +ℤ u ≡ v +ℤ w → u ≡ pos 0 → v ≡ pa -ℤ gc → new ≡ pa -ℤ (gc -ℤ w)
put_in new u v w pa gc h i j = omega (arith, ints)

nothing_left : (p g z : ℤ) → (p *ℤ g -ℤ g *ℤ p) *ℤ z ≡ pos 0
nothing_left p g z = ap (λ x. x *ℤ z) (minus_itself (p *ℤ g) (g *ℤ p) (*ℤ_comm p g)) ∙ *ℤ_comm (pos 0) z ∙ *ℤ-zero z

-- what is put in comes to p times what the line does, less g times what the line that is left does more than its own
pub put_sum_free : (y : ℕ → ℤ) (vs : List ℕ) (j : ℕ) (left line : TableLine) → j < length vs → j < length left.coefs →
    length line.coefs ≡ length left.coefs →
    sum_at y (set vs j left.basic) (put_into j left line).coefs ≡ coef_at j left *ℤ sum_at y vs line.coefs -ℤ
    coef_at j line *ℤ (sum_at y vs left.coefs -ℤ left.times *ℤ y left.basic)
put_sum_free y vs j left line h i w =
    let p = coef_at j left in
    let g = coef_at j line in
    let e = get_or vs j 0 in
    let many = eliminated p g line.coefs left.coefs in
    put_in (sum_at y (set vs j left.basic) (set many j (g *ℤ left.times))) (get_or many j (pos 0) *ℤ y e)
    (sum_at y vs many) (g *ℤ (left.times *ℤ y left.basic)) (p *ℤ sum_at y vs line.coefs)
    (g *ℤ sum_at y vs left.coefs)
    (sum_set y vs many j left.basic (g *ℤ left.times) h (omega (arith, length-eliminated p g line.coefs left.coefs w))
    ∙ ap (λ z. sum_at y vs many +ℤ z) (times_assoc g left.times (y left.basic)))
    (ap (λ z. z *ℤ y e) (get_or-eliminated p g line.coefs left.coefs j w i) ∙ nothing_left p g (y e))
    (sum_eliminated y p g vs line.coefs left.coefs w)
    ∙ ap (λ z. p *ℤ sum_at y vs line.coefs -ℤ z) (sym (times_minus g (sum_at y vs left.coefs)
    (left.times *ℤ y left.basic)))

less_nothing : (a g b : ℤ) → b ≡ pos 0 → a -ℤ g *ℤ b ≡ a
less_nothing a g b h = ap (λ z. a -ℤ g *ℤ z) h ∙ ap (λ z. a -ℤ z) (*ℤ-zero g) ∙ less a
  where
    less : (a : ℤ) → a -ℤ pos 0 ≡ a
    less a = omega (arith, ints)

pub put_sum : (y : ℕ → ℤ) (vs : List ℕ) (j : ℕ) (left line : TableLine) → j < length vs → j < length left.coefs →
    length line.coefs ≡ length left.coefs → HoldsAt y vs left →
    sum_at y (set vs j left.basic) (put_into j left line).coefs ≡ coef_at j left *ℤ sum_at y vs line.coefs
put_sum y vs j left line h i w l =
    put_sum_free y vs j left line h i w
    ∙ less_nothing (coef_at j left *ℤ sum_at y vs line.coefs) (coef_at j line)
    (sum_at y vs left.coefs -ℤ left.times *ℤ y left.basic)
    (minus_itself (sum_at y vs left.coefs) (left.times *ℤ y left.basic) (sym l))

pub put_holds_for : (value : ℤ) (y : ℕ → ℤ) (vs : List ℕ) (j : ℕ) (left line : TableLine) → j < length vs →
    j < length left.coefs → length line.coefs ≡ length left.coefs → ¬ (coef_at j left ≡ pos 0) → HoldsAt y vs left →
    HoldsFor value y (set vs j left.basic) (put_into j left line) ↔ HoldsFor value y vs line
put_holds_for value y vs j left line h i w n l =
    let p = coef_at j left in
    let sum = put_sum y vs j left line h i w l in
    let first = times_assoc p line.times value in (
      (λ e. cancel p (line.times *ℤ value) (sum_at y vs line.coefs) n (sym first ∙ e ∙ sum)),
      (λ e. first ∙ ap (λ z. p *ℤ z) e ∙ sym sum),
    )

pub put_holds : (y : ℕ → ℤ) (vs : List ℕ) (j : ℕ) (left line : TableLine) → j < length vs → j < length left.coefs →
    length line.coefs ≡ length left.coefs → ¬ (coef_at j left ≡ pos 0) → HoldsAt y vs left →
    HoldsAt y (set vs j left.basic) (put_into j left line) ↔ HoldsAt y vs line
put_holds y vs j left line h i w n l = put_holds_for (y line.basic) y vs j left line h i w n l

pub put_width : (j : ℕ) (left line : TableLine) → length line.coefs ≡ length left.coefs →
    length (put_into j left line).coefs ≡ length line.coefs
put_width j left line w = length-set _ j _ ∙ length-eliminated (coef_at j left) (coef_at j line) line.coefs left.coefs w
