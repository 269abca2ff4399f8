-- Numbers of 64 bits.
use Rattle.std.proofs.Common.{◌≡◌, ℕ, zero, suc, ℤ, pos, negsuc, ◌-ℤ◌, ◌*ℤ◌, true, cond, refl, ap, ◌∙◌, arith, tests, rules}
use Rattle.std.specs.Prelude.{FitsSigned, int_div, int_rem}
use Rattle.std.specs.Int.{w64}
use Rattle.std.proofs.lemmas.Int.{ints, quot-rem}
use Rattle.nomos_ir.specs.declared.fault.Fault.TheVariants as fault
use Rattle.nomos_ir.specs.Evaluation.{ends, faults, whole, has_64_bits, rest_of_division}
use Rattle.nomos_ir.specs.Value.{int}

pub has-fits : (z : ℤ) → FitsSigned w64 z → has_64_bits z ≡ true
has-fits (pos n) fits = search (tests, rules, fits.sfits)
has-fits (negsuc n) fits = search (tests, rules, fits.sfits)

-- what the quotient leaves is the remainder
minus-is : (x y : ℤ) → x -ℤ y *ℤ int_div x y ≡ int_rem x y
minus-is x y = grind (arith, ints, quot-rem x y)

pub rest-is : (x y : ℤ) (n : ℕ) → (y ≡ pos 0 → ⊥) → FitsSigned w64 (int_rem x y)
    → rest_of_division x y n ≡ ends (int (int_rem x y)) n
rest-is x (pos zero) n other fits = absurd (other refl)
rest-is x (pos (suc y)) n other fits =
    ap (λ z. whole z n) (minus-is x (pos (suc y)))
    ∙ ap (λ b. cond b (ends (int (int_rem x (pos (suc y)))) n) (faults fault.Overflow)) (has-fits _ fits)
rest-is x (negsuc y) n other fits =
    ap (λ z. whole z n) (minus-is x (negsuc y))
    ∙ ap (λ b. cond b (ends (int (int_rem x (negsuc y))) n) (faults fault.Overflow)) (has-fits _ fits)
