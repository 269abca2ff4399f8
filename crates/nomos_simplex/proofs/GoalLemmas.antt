-- A step of the making of the goal's line: what divides its numbers, and that a huge number stays large in lowest
-- terms.
use Rattle.std.proofs.Common.{◌≡◌, ℕ, zero, suc, ◌+◌, ◌*◌, ◌/◌, ◌<◌, ◌≤◌, ◌^◌, List, [], ◌∷◌, ◌++◌, length, map, get_or, take, refl, ap, ⊎_elim, sym, subst, ◌∙◌, arith, ℤ, pos, ◌+ℤ◌, ◌-ℤ◌, ◌*ℤ◌, ◌<ℤ◌, unsigned_abs, int_div, All, true, add-one, ◌||◌, Bool, false}
use Rattle.std.specs.Int.{◌∣◌}
use Rattle.std.specs.List.{list_any}
use Rattle.std.proofs.lemmas.Int.{ints, unsigned_abs-mul}
use Rattle.std.proofs.lemmas.Bool.{le-leb, cases_lt}
use Rattle.std.proofs.lemmas.List.Elements.{All-weaker}
use Rattle.std.proofs.Math.IntN.{*ℤ-zero}
use Rattle.nomos_forms.proofs.WholeLaws.{count_times_lt}
use Rattle.std.proofs.lemmas.List.{get_or-map, get_or_default, length-map}
use Rattle.std.proofs.lemmas.List.Folds.{list_any_at}
use Rattle.std.proofs.lemmas.Nat.Gcd.{IsGcd-swap, dvd_trans, dvd_antisymm, le_of_dvd}
use Rattle.std.proofs.Math.Nat.{one-dvd, dvd-mul_right, dvd-mul_left, dvd-mul_right_of_dvd, mul-le-mul}
use native.Mathlib.Nat.{div-mul_cancel, pos_of_dvd_of_pos}
use Rattle.nomos_simplex.specs.Divisors.{gcd, common, in_lowest_terms}
use Rattle.nomos_simplex.specs.Exchange.{is_large, is_large_line}
use Rattle.nomos_simplex.specs.GoalLine.{times_to_common, combined, with_added}
use Rattle.nomos_simplex.specs.Sizes.{IsLowest}
use Rattle.nomos_simplex.specs.declared.table.TableLine.{TableLine}
use Rattle.nomos_simplex.proofs.DivisorLemmas.{gcd_is, gcd_unique, gcd_times, common_divides_first, exact, lowest_is}
use Rattle.nomos_simplex.proofs.GcdLemmas.{common_divides_each, divides_common, exact_whole}
use Rattle.nomos_simplex.proofs.SignLemmas.{abs_over, abs_positive}
use Rattle.nomos_simplex.proofs.SumLemmas.{times_minus}

-- ---- combined lists
pub length-combined : (p q : ℤ) (as' cs : List ℤ) → length as' ≡ length cs → length (combined p q as' cs) ≡ length as'
length-combined p q [] cs h = refl
length-combined p q (a ∷ as') [] h = absurd (omega arith)
length-combined p q (a ∷ as') (c ∷ cs) h = ap suc (length-combined p q as' cs (omega arith))

pub get_or-combined : (p q : ℤ) (as' cs : List ℤ) (k : ℕ) (d : ℤ) → length as' ≡ length cs → k < length as' →
    get_or (combined p q as' cs) k d ≡ p *ℤ get_or as' k (pos 0) +ℤ q *ℤ get_or cs k (pos 0)
get_or-combined p q [] cs k d w h = absurd (omega arith)
get_or-combined p q (a ∷ as') [] k d w h = absurd (omega arith)
get_or-combined p q (a ∷ as') (c ∷ cs) zero d w h = refl
get_or-combined p q (a ∷ as') (c ∷ cs) (suc k) d w h = get_or-combined p q as' cs k d (omega arith) (omega arith)

pub combined_more : (p q : ℤ) (as' cs : List ℤ) (k : ℕ) → k < length as' → k < length cs →
    combined p q (take (k + 1) as') (take (k + 1) cs) ≡ combined p q (take k as') (take k cs) ++
    (p *ℤ get_or as' k (pos 0) +ℤ q *ℤ get_or cs k (pos 0)) ∷ []
combined_more p q [] cs k h i = absurd (omega arith)
combined_more p q (a ∷ as') [] k h i = absurd (omega arith)
combined_more p q (a ∷ as') (c ∷ cs) zero h i = refl
combined_more p q (a ∷ as') (c ∷ cs) (suc k) h i = rw add-one (ap (λ xs. (p *ℤ a +ℤ q *ℤ c) ∷ xs) (rw add-one at
    (combined_more p q as' cs k (omega arith) (omega arith))))

-- ---- divisors
pub gcd_swap : (a b : ℕ) → gcd a b ≡ gcd b a
gcd_swap a b = gcd_unique b a (gcd a b) (IsGcd-swap a b (gcd a b) (gcd_is a b))

divides_zero : (k : ℕ) → k ∣ 0
divides_zero k = let none : k * 0 ≡ 0 = omega arith in subst (λ n. k ∣ n) none (dvd-mul_right k 0)

-- what divides a product, and has no divisor with one factor, divides the other
pub divides_other : (k n m : ℕ) → gcd k n ≡ 1 → k ∣ n * m → k ∣ m
divides_other k n zero e h = divides_zero k
divides_other k n (suc m) e h =
    let one : suc m * gcd k n ≡ suc m = ap (λ g. suc m * g) e ∙ omega arith in
    let turned : n * suc m ≡ suc m * n = omega arith in
    subst (λ z. k ∣ z) (gcd_times (suc m) k n (omega arith) ∙ one)
    ((gcd_is (suc m * k) (suc m * n)).2 k (dvd-mul_left k (suc m)) (subst (λ z. k ∣ z) turned h))

divides_minus : (k : ℕ) (x y : ℤ) → 0 < k → k ∣ unsigned_abs (x +ℤ y) → k ∣ unsigned_abs y → k ∣ unsigned_abs x
divides_minus k x y p h i =
    let a = int_div (x +ℤ y) (pos k) in
    let b = int_div y (pos k) in
    let is : pos k *ℤ (a -ℤ b) ≡ x = times_minus (pos k) a b ∙ (λ q. exact k (x +ℤ y) p h q -ℤ exact k y p i q)
    ∙ left x y in
    subst (λ z. k ∣ z) (sym (unsigned_abs-mul (pos k) (a -ℤ b)) ∙ ap unsigned_abs is) (dvd-mul_right k
    (unsigned_abs (a -ℤ b)))
  where
    left : (x y : ℤ) → (x +ℤ y) -ℤ y ≡ x
    left x y = omega (arith, ints)

-- the parts of two numbers without their common divisor
record HasParts (a b : ℕ) : Type 0 where
  same : b / gcd a b * a ≡ a / gcd b a * b
  first_over : 0 < b / gcd a b
  lowest : gcd (a / gcd b a) (b / gcd a b) ≡ 1
  divides : a / gcd b a ∣ a

parts : (a b : ℕ) → 0 < a → 0 < b → HasParts a b
parts a b p q =
    let g = gcd a b in
    let both = gcd_is a b in
    let over : 0 < g = pos_of_dvd_of_pos both.0 p in
    let x = a / g in
    let y = b / g in
    let a_is : x * g ≡ a = div-mul_cancel g both.0 in
    let b_is : y * g ≡ b = div-mul_cancel g both.1 in
    let turn : a / gcd b a ≡ x = ap (λ h. a / h) (gcd_swap b a) in
    record {
      same = ap (λ z. y * z) (sym a_is) ∙ around x y g ∙ ap (λ z. x * z) b_is ∙ ap (λ z. z * b) (sym turn);
      first_over = not_zero y g b b_is q;
      lowest = ap (λ z. gcd z y) turn ∙ one g (gcd x y) over (sym (gcd_times g x y over)
          ∙ (λ r. gcd ((turned g x ∙ a_is) r) ((turned g y ∙ b_is) r)));
      divides = subst (λ z. z ∣ a) (sym turn) (subst (λ z. x ∣ z) a_is (dvd-mul_right x g));
    }
  where
    around : (x y g : ℕ) → y * (x * g) ≡ x * (y * g)
    around x y g = omega arith

    turned : (g x : ℕ) → g * x ≡ x * g
    turned g x = omega arith

    not_zero : (y g b : ℕ) → y * g ≡ b → 0 < b → 0 < y
    not_zero zero g b e h = absurd (omega arith)
    not_zero (suc y) g b e h = omega arith

    one : (g k : ℕ) → 0 < g → g * k ≡ g → k ≡ 1
    one (suc g) zero h e = absurd (omega arith)
    one (suc g) (suc zero) h e = refl
    one (suc g) (suc (suc k)) h e = absurd (omega arith)
    one zero k h e = absurd (omega arith)

-- ---- a step
-- no divisor of the sum has a divisor with the first number's part
divides_one : (n : ℤ) (star line : TableLine) (h : ℕ) → length line.coefs ≡ length star.coefs →
    HasParts (unsigned_abs line.times) (unsigned_abs star.times) → 0 < h → IsLowest line →
    h ∣ unsigned_abs line.times / gcd (unsigned_abs star.times) (unsigned_abs line.times) →
    All (λ c. h ∣ unsigned_abs c) (with_added n star line).coefs → h ∣ 1
divides_one n star line h w both over lowest part each =
    let e = unsigned_abs line.times in
    let d = unsigned_abs star.times in
    let first = d / gcd e d in
    let second = e / gcd d e in
    let apart : gcd h first ≡ 1 = dvd_one (gcd h first)
    (subst (λ z. gcd h first ∣ z) both.lowest ((gcd_is second first).2 (gcd h first)
    (dvd_trans (gcd h first) (gcd_is h first).0 part) (gcd_is h first).1)) in
    let coefs : All (λ c. h ∣ unsigned_abs c) line.coefs =
    λ k x l. let c = get_or line.coefs k (pos 0) in
    let a = get_or star.coefs k (pos 0) in
    let whole = subst (λ z. h ∣ unsigned_abs z)
    (get_or-combined (pos first) (pos second *ℤ n) line.coefs star.coefs k (pos 0) w l)
    (each k (pos 0) (omega (arith, length-combined (pos first) (pos second *ℤ n) line.coefs star.coefs w))) in
    let rest = subst (λ z. h ∣ z) (sym (unsigned_abs-mul (pos second *ℤ n) a))
    (dvd-mul_right_of_dvd h (subst (λ z. h ∣ z) (sym (unsigned_abs-mul (pos second) n))
    (dvd-mul_right_of_dvd h part (unsigned_abs n))) (unsigned_abs a)) in
    let one = subst (λ z. h ∣ z) (unsigned_abs-mul (pos first) c)
    (divides_minus h (pos first *ℤ c) ((pos second *ℤ n) *ℤ a) over whole rest) in
    subst (λ z. h ∣ unsigned_abs z) (get_or_default line.coefs k (pos 0) x l)
    (divides_other h first (unsigned_abs c) apart one) in
    subst (λ z. h ∣ z) lowest (divides_common h e line.coefs (dvd_trans h part both.divides) coefs)
  where
    dvd_one : (k : ℕ) → k ∣ 1 → k ≡ 1
    dvd_one k h = dvd_antisymm h (one-dvd k)

-- the common divisor of the sum divides the number before the star
pub step_divisor : (n : ℤ) (star line : TableLine) → length line.coefs ≡ length star.coefs → pos 0 <ℤ line.times →
    pos 0 <ℤ star.times → IsLowest line →
    common (unsigned_abs (with_added n star line).times) (with_added n star line).coefs ∣ unsigned_abs star.times
step_divisor n star line w over star_over lowest =
    let e = unsigned_abs line.times in
    let d = unsigned_abs star.times in
    let first = d / gcd e d in
    let second = e / gcd d e in
    let made = with_added n star line in
    let g = common (unsigned_abs made.times) made.coefs in
    let both = parts e d (abs_positive line.times over) (abs_positive star.times star_over) in
    let times : g ∣ second * d = subst (λ z. g ∣ z) (unsigned_abs-mul (pos first) line.times ∙ both.same)
    (common_divides_first (unsigned_abs made.times) made.coefs) in
    let h = gcd g second in
    let second_over : 0 < second = pos_of_dvd_of_pos both.divides (abs_positive line.times over) in
    let h_over : 0 < h = pos_of_dvd_of_pos (gcd_is g second).1 second_over in
    let one = divides_one n star line h w both h_over lowest (gcd_is g second).1
    (All-weaker (λ c. g ∣ unsigned_abs c) (λ c. h ∣ unsigned_abs c)
    (λ c i. dvd_trans h (gcd_is g second).0 i) made.coefs (common_divides_each (unsigned_abs made.times) made.coefs)) in
    divides_other g second d (dvd_antisymm one (one-dvd h)) times

pub added_over : (n : ℤ) (star line : TableLine) → pos 0 <ℤ line.times → pos 0 <ℤ star.times →
    pos 0 <ℤ (with_added n star line).times
added_over n star line over star_over =
    let both =
    parts (unsigned_abs line.times) (unsigned_abs star.times) (abs_positive line.times over)
    (abs_positive star.times star_over) in
    subst (λ z. z <ℤ (with_added n star line).times) (*ℤ-zero (times_to_common line.times star.times))
    (count_times_lt (unsigned_abs star.times / gcd (unsigned_abs line.times) (unsigned_abs star.times)) (pos 0)
    line.times both.first_over over)

-- both parts bring the two lines to one number before them
pub same_multiple : (a b : ℤ) → pos 0 <ℤ a → pos 0 <ℤ b → times_to_common a b *ℤ a ≡ times_to_common b a *ℤ b
same_multiple a b p q =
    let both = parts (unsigned_abs a) (unsigned_abs b) (abs_positive a p) (abs_positive b q) in
    ap (λ z. times_to_common a b *ℤ z) (sym (abs_over a p)) ∙ ap pos both.same
    ∙ ap (λ z. times_to_common b a *ℤ z) (abs_over b q)

-- ---- a huge number is large in lowest terms
still_large : (q g : ℕ) → g < 2 ^ 62 → 2 ^ 125 ≤ q * g → 2 ^ 62 ≤ q
still_large q g h i = ⊎_elim
    (λ less. let le = mul-le-mul (below q less) (under g h) in absurd (omega arith))
    (λ more. more) (cases_lt q (2 ^ 62))
  where
    below : (q : ℕ) → q < 2 ^ 62 → q ≤ 2 ^ 62
    below q h = omega (arith, h)

    under : (g : ℕ) → g < 2 ^ 62 → g ≤ 2 ^ 62
    under g h = omega (arith, h)

pub huge-is_large : (n : ℤ) (star line : TableLine) (i : ℕ) → length line.coefs ≡ length star.coefs
    → pos 0 <ℤ line.times →
    pos 0 <ℤ star.times → unsigned_abs star.times < 2 ^ 62 → IsLowest line → i < length (with_added n star line).coefs →
    2 ^ 125 ≤ unsigned_abs (get_or (with_added n star line).coefs i (pos 0)) →
    is_large_line (in_lowest_terms (with_added n star line)) ≡ true
huge-is_large n star line i w over star_over small lowest l huge =
    let made = with_added n star line in
    let g = common (unsigned_abs made.times) made.coefs in
    let divides = step_divisor n star line w over star_over lowest in
    let bound : g < 2 ^ 62 =
    omega (arith, le_of_dvd (abs_positive star.times star_over) divides, small) in
    let c = get_or made.coefs i (pos 0) in
    let is = lowest_is made g (added_over n star line over star_over) refl in
    let quotient = int_div c (pos g) in
    let whole : unsigned_abs quotient * g ≡ unsigned_abs c = sym (unsigned_abs-mul quotient (pos g))
    ∙ ap unsigned_abs (exact_whole c (pos g) (common_divides_each (unsigned_abs made.times) made.coefs i (pos 0) l)) in
    let large : is_large quotient ≡ true = le-leb (2 ^ 62) (unsigned_abs quotient)
    (still_large (unsigned_abs quotient) g bound (omega (arith, whole))) in
    let coefs = map (λ c. int_div c (pos g)) made.coefs in
    ap is_large_line is ∙ or_right (is_large (int_div made.times (pos g))) (list_any is_large coefs)
    (list_any_at is_large coefs i (pos 0) (omega (arith, length-map made.coefs (λ c. int_div c (pos g))))
    (ap is_large (get_or-map (λ c. int_div c (pos g)) made.coefs i (pos 0) (pos 0) l) ∙ large))
  where
    or_right : (x y : Bool) → y ≡ true → (x || y) ≡ true
    or_right true y h = refl
    or_right false y h = h
