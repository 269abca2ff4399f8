-- Greatest common divisors: what they are, at 1, of products, of lists.
use Rattle.std.proofs.Common.{◌≡◌, ℕ, zero, suc, ◌+◌, ◌*◌, ◌/◌, ◌%◌, ◌<◌, ◌≤◌, List, [], ◌∷◌, length, get_or, take, map, refl, ap, sym, subst, ◌∙◌, arith, ℤ, pos, negsuc, neg_ℤ, ◌*ℤ◌, ◌<ℤ◌, unsigned_abs, int_div, add-one, cond}
use borrow.Author.Differences.{false_is_lt}
use Rattle.nomos_forms.proofs.WholeLaws.{count_cancel, count_times_lt}
use Rattle.std.proofs.Math.IntN.{*ℤ-zero}
use Rattle.std.specs.Int.{IsGcd, ◌∣◌}
use Rattle.std.proofs.lemmas.Int.{ints, unsigned_abs-mul}
use Rattle.std.proofs.lemmas.Nat.Gcd.{IsGcd-from_zero, IsGcd-from_mod, same_from_IsGcd, dvd_refl, dvd_trans, dvd_antisymm, le_of_dvd}
use Rattle.std.proofs.Math.Nat.{mod-lt, one-dvd, dvd-mul_right, mul-dvd-mul_left, dvd_of_mul-dvd-mul_left, mul-div_cancel', pos_of_dvd_of_pos}
use Rattle.nomos_simplex.specs.Divisors.{euclid, gcd, common, signed_like, divided_by, in_lowest_terms}
use Rattle.nomos_simplex.specs.declared.table.TableLine.{TableLine}

euclid_is : (steps a b : ℕ) → b ≤ steps → IsGcd a b (euclid steps a b)
unfolding euclid
euclid_is zero a zero h = IsGcd-from_zero a zero refl
euclid_is (suc steps) a zero h = IsGcd-from_zero a zero refl
euclid_is zero a (suc b) h = absurd (omega arith)
euclid_is (suc steps) a (suc b) h =
    let less : a % suc b < suc b = mod-lt a (omega arith) in
    IsGcd-from_mod a (suc b) (euclid steps (suc b) (a % suc b)) (euclid_is steps (suc b) (a % suc b) (omega arith))

pub gcd_is : (a b : ℕ) → IsGcd a b (gcd a b)
unfolding gcd
gcd_is a b = euclid_is b a b (omega arith)

pub gcd_unique : (a b g : ℕ) → IsGcd a b g → g ≡ gcd a b
gcd_unique a b g h = same_from_IsGcd a b g (gcd a b) h (gcd_is a b)

pub gcd_one : (b : ℕ) → gcd 1 b ≡ 1
gcd_one b = sym (gcd_unique 1 b 1 (dvd_refl 1, one-dvd b, λ d h i. h))

-- a common factor comes out
pub gcd_times : (p a b : ℕ) → 0 < p → gcd (p * a) (p * b) ≡ p * gcd a b
gcd_times p a b h =
    let whole = gcd_is (p * a) (p * b) in
    let part = gcd_is a b in
    let factor : p ∣ gcd (p * a) (p * b) = whole.2 p (dvd-mul_right p a) (dvd-mul_right p b) in
    let k = gcd (p * a) (p * b) / p in
    let is : p * k ≡ gcd (p * a) (p * b) = mul-div_cancel' p factor in
    let below : k ∣ gcd a b = part.2 k (dvd_of_mul-dvd-mul_left k h (subst (λ z. z ∣ p * a) (sym is) whole.0))
    (dvd_of_mul-dvd-mul_left k h (subst (λ z. z ∣ p * b) (sym is) whole.1)) in
    dvd_antisymm (subst (λ z. z ∣ p * gcd a b) is (mul-dvd-mul_left k p below)) (whole.2 (p * gcd a b)
    (mul-dvd-mul_left (gcd a b) p part.0) (mul-dvd-mul_left (gcd a b) p part.1))

-- ---- of a list
pub common_one : (cs : List ℤ) → common 1 cs ≡ 1
common_one [] = refl
common_one (c ∷ cs) = ap (λ g. common g cs) (gcd_one (unsigned_abs c)) ∙ common_one cs

pub common_more : (g : ℕ) (cs : List ℤ) (k : ℕ) → k < length cs → common g (take (k + 1) cs) ≡ gcd (common g
    (take k cs)) (unsigned_abs (get_or cs k (pos 0)))
common_more g [] k h = absurd (omega arith)
common_more g (c ∷ cs) zero h = refl
common_more g (c ∷ cs) (suc k) h = rw add-one (rw add-one at (common_more (gcd g (unsigned_abs c)) cs k (omega arith)))

-- once it is 1 it stays so
pub common_from_one : (g : ℕ) (cs : List ℤ) (k : ℕ) → common g (take k cs) ≡ 1 → common g cs ≡ 1
common_from_one g [] zero e = e
common_from_one g [] (suc k) e = e
common_from_one g (c ∷ cs) zero e = ap (λ h. common h (c ∷ cs)) e ∙ common_one (c ∷ cs)
common_from_one g (c ∷ cs) (suc k) e = common_from_one (gcd g (unsigned_abs c)) cs k e

pub common_divides_first : (g : ℕ) (cs : List ℤ) → common g cs ∣ g
common_divides_first g [] = dvd_refl g
common_divides_first g (c ∷ cs) = dvd_trans (common (gcd g (unsigned_abs c)) cs) (common_divides_first (gcd g
    (unsigned_abs c)) cs) (gcd_is g (unsigned_abs c)).0

-- ---- exact quotients
pub exact : (g : ℕ) (z : ℤ) → 0 < g → g ∣ unsigned_abs z → pos g *ℤ int_div z (pos g) ≡ z
exact g (pos n) p h = ap pos (mul-div_cancel' g h)
exact g (negsuc n) p h = times_neg_pos (suc n / g) ∙ ap (λ k. neg_ℤ (pos k)) (mul-div_cancel' g h)
  where
    times_neg_pos : (k : ℕ) → pos g *ℤ neg_ℤ (pos k) ≡ neg_ℤ (pos (g * k))
    times_neg_pos zero = omega (arith, ints)
    times_neg_pos (suc k) = refl

pub div_one : (z : ℤ) → int_div z (pos 1) ≡ z
div_one z = sym (times_one (int_div z (pos 1))) ∙ exact 1 z (omega arith) (one-dvd (unsigned_abs z))
  where
    times_one : (z : ℤ) → pos 1 *ℤ z ≡ z
    times_one z = omega (arith, ints)

-- ---- lowest terms of a line whose number in front is over 0
pub signed_positive : (z : ℤ) (g : ℕ) → pos 0 <ℤ z → signed_like z g ≡ pos g
signed_positive z g h = ap (λ b. cond b (neg_ℤ (pos g)) (pos g)) (sym (false_is_lt z (pos 0) (omega (arith, ints))))

div_one_all : (cs : List ℤ) → map (λ c. int_div c (pos 1)) cs ≡ cs
div_one_all [] = refl
div_one_all (c ∷ cs) = λ p. div_one c p ∷ div_one_all cs p

pub divided_by_one : (line : TableLine) → divided_by (pos 1) line ≡ line
divided_by_one line = λ p. record line { times = div_one line.times p; coefs = div_one_all line.coefs p }

pub lowest_is : (line : TableLine) (g : ℕ) → pos 0 <ℤ line.times → g ≡ common (unsigned_abs line.times) line.coefs →
    in_lowest_terms line ≡ divided_by (pos g) line
lowest_is line g h e = ap (λ d. divided_by d line) (signed_positive line.times (common (unsigned_abs line.times)
    line.coefs) h ∙ ap pos (sym e))

-- the divisor is over 0, and no larger than the number in front
pub divisor_size : (line : TableLine) (g : ℕ) → pos 0 <ℤ line.times → g ≡ common (unsigned_abs line.times) line.coefs →
    (0 < g) × (g ≤ unsigned_abs line.times)
divisor_size line g h e =
    let over : 0 < unsigned_abs line.times = over_zero line.times h in
    let divides = subst (λ d. d ∣ unsigned_abs line.times) (sym e) (common_divides_first (unsigned_abs line.times)
    line.coefs) in
    (pos_of_dvd_of_pos divides over, le_of_dvd over divides)
  where
    over_zero : (z : ℤ) → pos 0 <ℤ z → 0 < unsigned_abs z
    over_zero (pos n) i = omega (arith, ints)
    over_zero (negsuc n) i = absurd (omega (arith, ints))

-- ---- a common factor of a line
pub common_times : (n g : ℕ) (cs : List ℤ) → 0 < n → common (n * g) (map (λ c. pos n *ℤ c) cs) ≡ n * common g cs
common_times n g [] h = refl
common_times n g (c ∷ cs) h =
    ap (λ d. common d (map (λ c. pos n *ℤ c) cs)) (ap (gcd (n * g)) (unsigned_abs-mul (pos n) c)
    ∙ gcd_times n g (unsigned_abs c) h) ∙ common_times n (gcd g (unsigned_abs c)) cs h

pub div_times : (n : ℕ) (z : ℤ) → 0 < n → int_div (pos n *ℤ z) (pos n) ≡ z
div_times n z h =
    let divides : n ∣ unsigned_abs (pos n *ℤ z) = subst (λ k. n ∣ k) (sym (unsigned_abs-mul (pos n) z)) (dvd-mul_right
    n (unsigned_abs z)) in
    count_cancel n (int_div (pos n *ℤ z) (pos n)) z h (exact n (pos n *ℤ z) h divides)

div_times_all : (n : ℕ) (cs : List ℤ) → 0 < n → map (λ c. int_div c (pos n)) (map (λ c. pos n *ℤ c) cs) ≡ cs
div_times_all n [] h = refl
div_times_all n (c ∷ cs) h = λ p. div_times n c h p ∷ div_times_all n cs h p

-- a line without common divisor, multiplied by a number over 0, is itself in lowest terms
pub lowest_times : (n : ℕ) (line : TableLine) → 0 < n → pos 0 <ℤ line.times
    → common (unsigned_abs line.times) line.coefs ≡
    1 → in_lowest_terms (record line { times = pos n *ℤ line.times; coefs = map (λ c. pos n *ℤ c) line.coefs }) ≡ line
lowest_times n line h over lowest =
    let many = record line { times = pos n *ℤ line.times; coefs = map (λ c. pos n *ℤ c) line.coefs } in
    let divisor : n ≡ common (unsigned_abs many.times) many.coefs = sym (ap (λ g. common g many.coefs)
    (unsigned_abs-mul (pos n) line.times) ∙ common_times n (unsigned_abs line.times) line.coefs h
    ∙ ap (λ k. n * k) lowest ∙ omega arith) in
    lowest_is many n (count_times_over n line.times h over) divisor
    ∙ λ p. record line { times = div_times n line.times h p; coefs = div_times_all n line.coefs h p }
  where
    count_times_over : (n : ℕ) (z : ℤ) → 0 < n → pos 0 <ℤ z → pos 0 <ℤ (pos n *ℤ z)
    count_times_over n z p q = subst (λ k. k <ℤ (pos n *ℤ z)) (*ℤ-zero (pos n)) (count_times_lt n (pos 0) z p q)
