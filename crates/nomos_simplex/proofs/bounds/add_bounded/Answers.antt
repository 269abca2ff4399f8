use Rattle.std.proofs.Common.{◌≡◌, ◌+◌, ◌≤◌, ◌^◌, arith, ℤ, ◌+ℤ◌, ◌*ℤ◌, unsigned_abs, FitsSigned, to_z, of_z, sym, subst, ◌∙◌}
use Rattle.std.specs.Int.{w64, w128}
use Rattle.std.proofs.lemmas.Int.{to_z-of_z}
use Rattle.nomos_forms.proofs.ProductLemmas.{wide_fits, wide_back}
use Rattle.nomos_forms.specs.Bounds.{IsSmall}
use Rattle.nomos_simplex.specs.Sizes.{IsNumber}
use Rattle.nomos_simplex.proofs.NumberLemmas.{number_back, narrow_back, bounded_size, abs_sum}
use Rattle.nomos_simplex.proofs.bounds.add_bounded.Goals as goal

bounded_sum : (sum product : ℤ) → unsigned_abs product ≤ 2 ^ 107 →
    unsigned_abs (sum +ℤ product) ≤ unsigned_abs sum + 2 ^ 107
bounded_sum sum product size = omega (arith, abs_sum sum product, size)

-- the factors, in the code's width
factors_back : (number bound from by : ℤ) → IsNumber number → IsSmall bound → from ≡ number → by ≡ bound →
    to_z w128 (of_z w128 from) *ℤ to_z w128 (of_z w128 by) ≡ number *ℤ bound
factors_back number bound from by fits small is by_is =
    (λ p. to_z w128 (of_z w128 (is p)) *ℤ to_z w128 (of_z w128 (by_is p)))
    ∙ (λ p. number_back number fits p *ℤ wide_back bound (omega (arith, small)) p)

pub overflow_mul-result : goal.overflow_mul-result
overflow_mul-result c =
    let number = c.args.number in
    let bound = c.args.bound in
    let size = bounded_size number bound c.requires.number c.requires.bound in
    let factors = factors_back number bound c.from.result c.from-2.result c.requires.number c.requires.bound
    (c.from.ensures ∙ narrow_back number c.requires.number) (c.from-2.ensures
    ∙ to_z-of_z w64 bound c.ranges.bound) in
    subst (FitsSigned w128) (sym factors) (wide_fits (number *ℤ bound) (omega (arith, size)))

pub overflow_add-result : goal.overflow_add-result
overflow_add-result c =
    let sum = c.args.sum in
    let number = c.args.number in
    let bound = c.args.bound in
    let size = bounded_size number bound c.requires.number c.requires.bound in
    let factors = factors_back number bound c.from.result c.from-2.result c.requires.number c.requires.bound
    (c.from.ensures ∙ narrow_back number c.requires.number) (c.from-2.ensures
    ∙ to_z-of_z w64 bound c.ranges.bound) in
    let product = (λ p. to_z w128 (of_z w128 (factors p))) ∙ wide_back (number *ℤ bound) (omega (arith, size)) in
    let back = wide_back sum (omega (arith, c.requires.room)) in
    subst (FitsSigned w128) (λ p. sym back p +ℤ sym product p)
    (wide_fits (sum +ℤ number *ℤ bound) (omega (arith, bounded_sum sum (number *ℤ bound) size, c.requires.room)))

pub returns : goal.returns
returns c =
    let sum = c.args.sum in
    let number = c.args.number in
    let bound = c.args.bound in
    let size = bounded_size number bound c.requires.number c.requires.bound in
    let whole = bounded_sum sum (number *ℤ bound) size in
    let factors = factors_back number bound c.from.result c.from-2.result c.requires.number c.requires.bound
    (c.from.ensures ∙ narrow_back number c.requires.number) (c.from-2.ensures
    ∙ to_z-of_z w64 bound c.ranges.bound) in
    let product = (λ p. to_z w128 (of_z w128 (factors p))) ∙ wide_back (number *ℤ bound) (omega (arith, size)) in
    let back = wide_back sum (omega (arith, c.requires.room)) in
    let value = (λ p. to_z w128 (of_z w128 (back p +ℤ product p)))
    ∙ wide_back (sum +ℤ number *ℤ bound) (omega (arith, whole, c.requires.room)) in
    record { value = value; size = subst (λ z. unsigned_abs z ≤ unsigned_abs sum + 2 ^ 107) (sym value) whole }
