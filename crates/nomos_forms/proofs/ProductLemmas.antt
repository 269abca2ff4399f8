-- Products of numbers, in the code's width.
use Rattle.std.proofs.Common.{◌≡◌, ◌+◌, ◌<◌, ◌≤◌, ◌^◌, arith, ◌∙◌, ℕ, ℤ, pos, ◌+ℤ◌, ◌*ℤ◌, unsigned_abs, FitsSigned, to_z, of_z}
use Rattle.std.specs.Int.{w128}
use Rattle.std.proofs.lemmas.Int.{ints, to_z-of_z, fits_signed_from_abs, unsigned_abs-mul}
use Rattle.std.proofs.Math.Nat.{mul-le-mul}
use Rattle.nomos_forms.specs.Bounds.{IsSmall}

pub wide_fits : (z : ℤ) → unsigned_abs z < 2 ^ 127 → FitsSigned w128 z
wide_fits z h = fits_signed_from_abs w128 z h

pub wide_back : (z : ℤ) → unsigned_abs z < 2 ^ 127 → to_z w128 (of_z w128 z) ≡ z
wide_back z h = to_z-of_z w128 z (wide_fits z h)

pub product_size : (n : ℕ) (z : ℤ) → n < 2 ^ 62 → IsSmall z → unsigned_abs (pos n *ℤ z) ≤ 2 ^ 107
product_size n z h i = rw unsigned_abs-mul (omega (arith, mul-le-mul (below n h) (small z i)))
  where
    below : (m : ℕ) → m < 2 ^ 62 → m ≤ 2 ^ 62
    below m j = omega (arith, j)

    small : (w : ℤ) → IsSmall w → unsigned_abs w ≤ 2 ^ 45
    small w j = omega (arith, j)

pub sum_size : (a b : ℤ) → unsigned_abs b ≤ 2 ^ 107 → unsigned_abs (a +ℤ b) ≤ unsigned_abs a + 2 ^ 107
sum_size a b h = omega (arith, ints, h)

-- factors and their product, in the code's width
pub factors_back : (f g a b : ℤ) → f ≡ a → g ≡ b → unsigned_abs a < 2 ^ 127 → unsigned_abs b < 2 ^ 127 →
    to_z w128 (of_z w128 f) *ℤ to_z w128 (of_z w128 g) ≡ a *ℤ b
factors_back f g a b e d h i =
    (λ p. to_z w128 (of_z w128 (e p)) *ℤ to_z w128 (of_z w128 (d p))) ∙ (λ p. wide_back a h p *ℤ wide_back b i p)
