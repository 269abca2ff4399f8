-- Numbers in the code's width, and products of numbers that were split.
use Rattle.std.proofs.Common.{◌≡◌, ◌*◌, ◌<◌, ◌≤◌, ◌^◌, arith, ap, sym, ◌∙◌, ℕ, ℤ, pos, ◌+ℤ◌, ◌-ℤ◌, ◌*ℤ◌, unsigned_abs, to_z, of_z}
use Rattle.std.specs.Int.{w128}
use Rattle.std.proofs.lemmas.Int.{ints, unsigned_abs-mul}
use Rattle.std.proofs.Math.Nat.{mul-le-mul}
use Rattle.nomos_forms.proofs.ProductLemmas.{wide_back}
use Rattle.nomos_forms.proofs.WholeLaws.{times_sum, times_assoc}

pub first_size : (a : ℕ) (x : ℤ) → a < 2 ^ 32 → unsigned_abs x ≤ 2 ^ 83 → unsigned_abs (pos a *ℤ x) ≤ 2 ^ 115
first_size a x h i = rw unsigned_abs-mul (omega (arith, mul-le-mul (below a h) i))
  where
    below : (n : ℕ) → n < 2 ^ 32 → n ≤ 2 ^ 32
    below n j = omega (arith, j)

pub second_size : (b : ℕ) (y : ℤ) → b < 2 ^ 62 → unsigned_abs y ≤ 2 ^ 48 → unsigned_abs (pos b *ℤ y) ≤ 2 ^ 110
second_size b y h i = rw unsigned_abs-mul (omega (arith, mul-le-mul (below b h) i))
  where
    below : (n : ℕ) → n < 2 ^ 62 → n ≤ 2 ^ 62
    below n j = omega (arith, j)

pub difference_size : (u v : ℤ) → unsigned_abs u ≤ 2 ^ 115 → unsigned_abs v ≤ 2 ^ 110 → unsigned_abs (u -ℤ v) ≤ 2 ^ 116
difference_size u v h i = omega (arith, ints)

-- a product, part by part
pub one_product : (a high part low x : ℤ) → high *ℤ part +ℤ low ≡ x → a *ℤ x ≡ (a *ℤ high) *ℤ part +ℤ a *ℤ low
one_product a high part low x h =
    ap (λ z. a *ℤ z) (sym h) ∙ times_sum a (high *ℤ part) low ∙ ap (λ z. z +ℤ a *ℤ low) (sym (times_assoc a high part))

pub sum_size : (high carry low : ℤ) → unsigned_abs high ≤ 2 ^ 116 → unsigned_abs low ≤ 2 ^ 116 →
    unsigned_abs carry * 4294967296 ≤ unsigned_abs low → unsigned_abs (high +ℤ carry) < 2 ^ 127
sum_size high carry low h i j = omega (arith, ints)

-- in the code's width
pub back_product : (f x a : ℤ) → f ≡ a → unsigned_abs a < 2 ^ 127 → unsigned_abs x < 2 ^ 127 →
    unsigned_abs (a *ℤ x) < 2 ^ 127 → to_z w128 (of_z w128 (to_z w128 (of_z w128 f) *ℤ to_z w128 (of_z w128 x)))
    ≡ a *ℤ x
back_product f x a e ha hx h =
    (λ p. to_z w128 (of_z w128 (to_z w128 (of_z w128 (e p)) *ℤ wide_back x hx p)))
    ∙ (λ p. to_z w128 (of_z w128 (wide_back a ha p *ℤ x))) ∙ wide_back (a *ℤ x) h

-- whether two products of split numbers are the same
pub same_from_parts : (ax other a1 a2 b1 b2 high low carry rest : ℤ) → ax ≡ a1 *ℤ pos 4294967296 +ℤ a2 →
    other ≡ b1 *ℤ pos 4294967296 +ℤ b2 → high ≡ a1 -ℤ b1 → low ≡ a2 -ℤ b2 → carry *ℤ pos 4294967296 +ℤ rest ≡ low →
    rest ≡ pos 0 → high +ℤ carry ≡ pos 0 → ax ≡ other
same_from_parts ax other a1 a2 b1 b2 high low carry rest e f g h i j k = omega (arith, ints)

pub parts_from_same : (ax other a1 a2 b1 b2 high low carry rest : ℤ) → ax ≡ a1 *ℤ pos 4294967296 +ℤ a2 →
    other ≡ b1 *ℤ pos 4294967296 +ℤ b2 → high ≡ a1 -ℤ b1 → low ≡ a2 -ℤ b2 → carry *ℤ pos 4294967296 +ℤ rest ≡ low →
    unsigned_abs rest < 4294967296 → ax ≡ other → (rest ≡ pos 0) × (high +ℤ carry ≡ pos 0)
parts_from_same ax other a1 a2 b1 b2 high low carry rest e f g h i j k = (omega (arith, ints), omega (arith, ints))
