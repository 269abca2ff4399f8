-- Fractions over a common unit.
use Rattle.std.proofs.Common.{◌≡◌, ℕ, zero, suc, ◌+◌, ◌*◌, ◌/◌, ◌<◌, ◌≤◌, Bool, true, false, cond, Option, Some, None, List, [], ◌∷◌, length, get_or, take, All, refl, ap, sym, subst, ◌∙◌, arith, add-one}
use Rattle.std.specs.Prelude.{find, nat_lt, if◌then◌else◌, ◌&&◌}
use Rattle.std.specs.List.{list_all}
use Rattle.std.proofs.lemmas.Bool.Decides.{nat_tests}
use Rattle.std.specs.Int.{◌∣◌}
use Rattle.std.proofs.lemmas.List.Elements.{All-head, All-tail}
use Rattle.std.proofs.lemmas.Nat.Gcd.{le_of_dvd}
use Rattle.std.proofs.Math.Nat.{pos_of_dvd_of_pos, mul-div_cancel', mul-div_cancel, dvd-mul_right, mul-le-mul_right}
use Rattle.nomos_simplex.specs.Divisors.{gcd, lcm}
use Rattle.nomos_simplex.specs.Exits.{denominator, common_denominator, IsFraction}
use Rattle.nomos_simplex.proofs.DivisorLemmas.{gcd_is}

pub gcd_over : (a b : ℕ) → 0 < a → 0 < gcd a b
gcd_over a b h = pos_of_dvd_of_pos (gcd_is a b).0 h

pub quotient_over : (a b : ℕ) → 0 < a → 0 < a / gcd a b
quotient_over a b h = over (a / gcd a b) (mul-div_cancel' (gcd a b) (gcd_is a b).0)
  where
    over : (q : ℕ) → gcd a b * q ≡ a → 0 < q
    over zero e = absurd (omega arith)
    over (suc q) e = omega arith

pub lcm_over : (a b : ℕ) → 0 < b → a ≤ lcm a b
lcm_over a b h =
    let g = gcd a b in
    let q = a / g in
    let is : g * q ≡ a = mul-div_cancel' g (gcd_is a b).0 in
    let less = mul-le-mul_right q (le_of_dvd h (gcd_is a b).1) in
    omega (arith, less)

pub first_divides_lcm : (a b : ℕ) → a ∣ lcm a b
first_divides_lcm a b =
    let g = gcd a b in
    let q = a / g in
    let r = b / g in
    let is_a : g * q ≡ a = mul-div_cancel' g (gcd_is a b).0 in
    let is_b : g * r ≡ b = mul-div_cancel' g (gcd_is a b).1 in
    let same : a * r ≡ q * b = ap (λ x. x * r) (sym is_a) ∙ regroup g q r ∙ ap (λ x. q * x) is_b in
    subst (λ x. a ∣ x) same (dvd-mul_right a r)
  where
    regroup : (x y z : ℕ) → (x * y) * z ≡ y * (x * z)
    regroup x y z = omega arith

-- ---- the common denominator
pub common_more : (u : ℕ) (fs : List (ℕ × ℕ)) (k : ℕ) (d : ℕ × ℕ) → k < length fs → common_denominator u (take
    (k + 1) fs) ≡ lcm (common_denominator u (take k fs)) (denominator (get_or fs k d))
common_more u [] k d h = absurd (omega arith)
common_more u (f ∷ fs) zero d h = refl
common_more u (f ∷ fs) (suc k) d h = rw add-one (rw add-one at (common_more (lcm u (denominator f)) fs k d
    (omega arith)))

-- ---- a fraction over a unit that its denominator divides
pub amount_is : (unit : ℕ) (f : ℕ × ℕ) → 0 < f.1 → denominator f ∣ unit → unit * f.0 / f.1 ≡ unit / denominator f *
    (f.0 / gcd f.1 f.0)
amount_is unit f over whole =
    let g = gcd f.1 f.0 in
    let den = denominator f in
    let num = f.0 / g in
    let q = unit / den in
    let is_den : g * den ≡ f.1 = mul-div_cancel' g (gcd_is f.1 f.0).0 in
    let is_num : g * num ≡ f.0 = mul-div_cancel' g (gcd_is f.1 f.0).1 in
    let is_unit : den * q ≡ unit = mul-div_cancel' den whole in
    let product : unit * f.0 ≡ q * num * f.1 = (λ p. sym is_unit p * sym is_num p) ∙ regroup den q g num
    ∙ ap (λ x. q * num * x) is_den in
    ap (λ x. x / f.1) product ∙ mul-div_cancel (q * num) over
  where
    regroup : (a b c d : ℕ) → (a * b) * (c * d) ≡ (b * d) * (c * a)
    regroup a b c d = omega arith

pub unit_quotient : (den unit : ℕ) → den ∣ unit → 0 < unit → 0 < unit / den
unit_quotient den unit h over = by (unit / den) (mul-div_cancel' den h)
  where
    by : (q : ℕ) → den * q ≡ unit → 0 < q
    by zero e = absurd (omega arith)
    by (suc q) e = omega arith

-- ---- a number where it is small
pub small_none : (x n : ℕ) → n ≤ x → None ≡ (if nat_lt x n then Some x else None)
small_none x n h = grind (arith, nat_tests)

pub small_some : (x n : ℕ) → x < n → Some x ≡ (if nat_lt x n then Some x else None)
small_some x n h = grind (arith, nat_tests)

-- ---- what is found is in the list, and passes
found_step : {X : Type 0} (p : X → Bool) (P : X → Type 0) (y : X) (rest : Option X) (x : X) (b : Bool) → p y ≡ b →
    cond b (Some y) rest ≡ Some x → P y → (rest ≡ Some x → P x × (p x ≡ true)) → P x × (p x ≡ true)
found_step p P y rest x true is f py go = let same : y ≡ x = cc in (subst P same py, ap p (sym same) ∙ is)
found_step p P y rest x false is f py go = go f

pub found_in : {X : Type 0} (p : X → Bool) (P : X → Type 0) (xs : List X) (x : X) → find p xs ≡ Some x → All P xs →
    P x × (p x ≡ true)
found_in p P [] x e all = cc
found_in p P (y ∷ ys) x e all = found_step p P y (find p ys) x (p y) refl e (All-head P y ys all) (λ f. found_in p P
    ys x f (All-tail P y ys all))

-- ---- tests of the answers
pub none_large : (b : Bool) (x : ℕ) → None ≡ (if b then Some x else None) → b ≡ false
none_large true x h = cc
none_large false x h = refl

pub some_is : (b : Bool) (u x : ℕ) → Some u ≡ (if b then Some x else None) → (u ≡ x) × (b ≡ true)
some_is true u x h = (cc, refl)
some_is false u x h = cc

and_false : (b : Bool) → (b && false) ≡ false
and_false true = refl
and_false false = refl

pub list_all_fails : {X : Type 0} (p : X → Bool) (xs : List X) (i : ℕ) (d : X) → i < length xs →
    p (get_or xs i d) ≡ false → list_all p xs ≡ false
list_all_fails p [] i d h e = absurd (omega arith)
list_all_fails p (x ∷ xs) zero d h e = ap (λ b. b && list_all p xs) e
list_all_fails p (x ∷ xs) (suc i) d h e = ap (λ b. p x && b) (list_all_fails p xs i d (omega arith) e) ∙ and_false (p x)

pub common_over : (u : ℕ) (fs : List (ℕ × ℕ)) → 0 < u → All IsFraction fs → 0 < common_denominator u fs
common_over u [] h all = h
common_over u (f ∷ fs) h all =
    let den : 0 < denominator f = quotient_over f.1 f.0 (All-head IsFraction f fs all).1 in
    common_over (lcm u (denominator f)) fs (omega (arith, lcm_over u (denominator f) den)) (All-tail IsFraction f fs
    all)
