-- Numbers of a table in the code's width.
use Rattle.std.proofs.Common.{◌≡◌, ◌+◌, ◌-◌, ◌<◌, ◌≤◌, ◌^◌, arith, ℤ, ◌*ℤ◌, ◌+ℤ◌, unsigned_abs, to_z, of_z, ◌∙◌}
use Rattle.std.specs.Int.{w64, w128}
use Rattle.std.proofs.lemmas.Int.{ints, to_z-of_z, fits_signed_from_abs, unsigned_abs-mul}
use Rattle.std.proofs.Math.Nat.{mul-le-mul}
use Rattle.nomos_forms.proofs.ProductLemmas.{wide_back}
use Rattle.nomos_forms.specs.Bounds.{IsSmall}
use Rattle.nomos_simplex.specs.Sizes.{IsNumber}

pub number_back : (z : ℤ) → IsNumber z → to_z w128 (of_z w128 z) ≡ z
number_back z h = wide_back z (omega (arith, h))

-- by way of 64 bits
pub narrow_back : (z : ℤ) → IsNumber z → to_z w64 (of_z w64 (to_z w128 (of_z w128 z))) ≡ z
narrow_back z h = (λ p. to_z w64 (of_z w64 (number_back z h p))) ∙ to_z-of_z w64 z (fits_signed_from_abs w64 z (omega
    (arith, h)))

pub product_size : (a b : ℤ) → IsNumber a → IsNumber b → unsigned_abs (a *ℤ b) < 2 ^ 124
product_size a b h i = rw unsigned_abs-mul (omega (arith, mul-le-mul (below a h) (below b i)))
  where
    below : (z : ℤ) → IsNumber z → unsigned_abs z ≤ 2 ^ 62 - 1
    below z j = omega (arith, j)

pub bounded_size : (a b : ℤ) → IsNumber a → IsSmall b → unsigned_abs (a *ℤ b) ≤ 2 ^ 107
bounded_size a b h i = rw unsigned_abs-mul (omega (arith, mul-le-mul (below a h) (small b i)))
  where
    below : (z : ℤ) → IsNumber z → unsigned_abs z ≤ 2 ^ 62
    below z j = omega (arith, j)

    small : (z : ℤ) → IsSmall z → unsigned_abs z ≤ 2 ^ 45
    small z j = omega (arith, j)

pub abs_sum : (a b : ℤ) → unsigned_abs (a +ℤ b) ≤ unsigned_abs a + unsigned_abs b
abs_sum a b = omega (arith, ints)
