-- The greatest common divisor of a line's numbers divides each of them, exactly, and leaves no common divisor.
use Rattle.std.proofs.Common.{◌≡◌, ℕ, zero, suc, ◌<◌, List, [], ◌∷◌, ap, sym, refl, ◌∙◌, arith, ℤ, pos, negsuc, ◌+ℤ◌, ◌*ℤ◌, neg_ℤ, ◌<ℤ◌, unsigned_abs, All}
use Rattle.std.specs.Prelude.{int_div, int_rem, int_lt}
use Rattle.std.proofs.lemmas.Int.{ints, quot-rem}
use Rattle.std.proofs.lemmas.Bool.{cond-false, le-ltb}
use Rattle.std.proofs.lemmas.Nat.Gcd.{dvd_trans, mod-eq-zero_of_dvd}
use Rattle.std.proofs.lemmas.List.Elements.{All-nil, All-cons, All-head, All-tail}
use Rattle.std.specs.Int.{◌∣◌}
use borrow.Author.Differences.{below_in}
use Rattle.nomos_simplex.specs.Divisors.{gcd, common, signed_like}
use Rattle.nomos_simplex.proofs.DivisorLemmas.{gcd_is, common_divides_first}

pub common_divides_each : (g : ℕ) (cs : List ℤ) → All (λ c. common g cs ∣ unsigned_abs c) cs
common_divides_each g [] = All-nil (λ c. g ∣ unsigned_abs c)
common_divides_each g (c ∷ cs) =
    let h = gcd g (unsigned_abs c) in
    All-cons (λ x. common h cs ∣ unsigned_abs x) c cs
    (dvd_trans (common h cs) (common_divides_first h cs) (gcd_is g (unsigned_abs c)).1) (common_divides_each h cs)

-- and whatever divides them all divides it
pub divides_common : (k g : ℕ) (cs : List ℤ) → k ∣ g → All (λ c. k ∣ unsigned_abs c) cs → k ∣ common g cs
divides_common k g [] h each = h
divides_common k g (c ∷ cs) h each = divides_common k (gcd g (unsigned_abs c)) cs
    ((gcd_is g (unsigned_abs c)).2 k h (All-head (λ c. k ∣ unsigned_abs c) c cs each))
    (All-tail (λ c. k ∣ unsigned_abs c) c cs each)

-- ---- exact quotients of whole numbers
no_rest : (a d : ℤ) → unsigned_abs d ∣ unsigned_abs a → int_rem a d ≡ pos 0
no_rest (pos a) d h = ap pos (mod-eq-zero_of_dvd (unsigned_abs d) h)
no_rest (negsuc a) d h = ap (λ n. neg_ℤ (pos n)) (mod-eq-zero_of_dvd (unsigned_abs d) h)

plus_nothing : (a b r : ℤ) → a +ℤ r ≡ b → r ≡ pos 0 → a ≡ b
plus_nothing a b r h i = omega (arith, ints)

pub exact_whole : (a d : ℤ) → unsigned_abs d ∣ unsigned_abs a → int_div a d *ℤ d ≡ a
exact_whole a d h = plus_nothing (int_div a d *ℤ d) a (int_rem a d) (quot-rem a d) (no_rest a d h)

signed_pos : (n g : ℕ) → signed_like (pos n) g ≡ pos g
signed_pos n g = cond-false (int_lt (pos n) (pos 0)) (neg_ℤ (pos g)) (pos g) (le-ltb n 0 (omega arith))

pub abs_signed : (z : ℤ) (g : ℕ) → unsigned_abs (signed_like z g) ≡ g
abs_signed (pos n) g = ap unsigned_abs (signed_pos n g)
abs_signed (negsuc n) zero = refl
abs_signed (negsuc n) (suc g) = refl

-- a quotient by a number of the same sign is over 0
pub quotient_over_zero : (q z : ℤ) (g : ℕ) → 0 < g → ¬ (z ≡ pos 0) → q *ℤ signed_like z g ≡ z → pos 0 <ℤ q
quotient_over_zero (pos (suc q)) z g h n e = below_in (pos 0) (pos (suc q)) (omega arith)
quotient_over_zero (pos zero) z g h n e = absurd (n (sym e ∙ none (signed_like z g)))
  where
    none : (w : ℤ) → pos 0 *ℤ w ≡ pos 0
    none w = omega (arith, ints)
quotient_over_zero (negsuc q) (pos zero) g h n e = absurd (n refl)
quotient_over_zero (negsuc q) (pos (suc z)) zero h n e = absurd (omega arith)
quotient_over_zero (negsuc q) (pos (suc z)) (suc g) h n e =
    absurd (odd (ap (λ d. negsuc q *ℤ d) (sym (signed_pos (suc z) (suc g))) ∙ e))
  where
    odd : negsuc q *ℤ pos (suc g) ≡ pos (suc z) → ⊥
    odd h = omega (arith, ints)
quotient_over_zero (negsuc q) (negsuc z) zero h n e = absurd (omega arith)
quotient_over_zero (negsuc q) (negsuc z) (suc g) h n e = absurd (omega (arith, ints))
