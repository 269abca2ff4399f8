use Rattle.std.proofs.Common.{◌+◌, ◌≤◌, ◌^◌, arith, sym, subst, ◌∙◌, pos, ◌+ℤ◌, ◌*ℤ◌, unsigned_abs, FitsSigned, to_z, of_z}
use Rattle.std.specs.Int.{w64, w128}
use Rattle.std.proofs.lemmas.Int.{to_z-of_z}
use Rattle.nomos_forms.proofs.ProductLemmas.{wide_fits, wide_back, product_size, sum_size, factors_back}
use Rattle.nomos_forms.proofs.product.add_product.Goals as goal

pub overflow_mul-result : goal.overflow_mul-result
overflow_mul-result c =
    let times = pos c.args.times in
    let number = c.args.number in
    let size = product_size c.args.times number c.requires.times c.requires.number in
    let second = c.from-2.ensures ∙ to_z-of_z w64 number c.ranges.number in
    let factors = factors_back c.from.result c.from-2.result times number c.from.ensures second
    (omega (arith, c.requires.times)) (omega (arith, c.requires.number)) in
    subst (FitsSigned w128) (sym factors) (wide_fits (times *ℤ number) (omega (arith, size)))

pub overflow_add-result : goal.overflow_add-result
overflow_add-result c =
    let sum = c.args.sum in
    let times = pos c.args.times in
    let number = c.args.number in
    let size = product_size c.args.times number c.requires.times c.requires.number in
    let second = c.from-2.ensures ∙ to_z-of_z w64 number c.ranges.number in
    let factors = factors_back c.from.result c.from-2.result times number c.from.ensures second
    (omega (arith, c.requires.times)) (omega (arith, c.requires.number)) in
    let product = (λ p. to_z w128 (of_z w128 (factors p))) ∙ wide_back (times *ℤ number) (omega (arith, size)) in
    let back = wide_back sum (omega (arith, c.requires.room)) in
    subst (FitsSigned w128) (λ p. sym back p +ℤ sym product p)
    (wide_fits (sum +ℤ times *ℤ number)
    (omega (arith, sum_size sum (times *ℤ number) size, c.requires.room)))

pub returns : goal.returns
returns c =
    let sum = c.args.sum in
    let times = pos c.args.times in
    let number = c.args.number in
    let size = product_size c.args.times number c.requires.times c.requires.number in
    let whole = sum_size sum (times *ℤ number) size in
    let second = c.from-2.ensures ∙ to_z-of_z w64 number c.ranges.number in
    let factors = factors_back c.from.result c.from-2.result times number c.from.ensures second
    (omega (arith, c.requires.times)) (omega (arith, c.requires.number)) in
    let product = (λ p. to_z w128 (of_z w128 (factors p))) ∙ wide_back (times *ℤ number) (omega (arith, size)) in
    let back = wide_back sum (omega (arith, c.requires.room)) in
    let value = (λ p. to_z w128 (of_z w128 (back p +ℤ product p)))
    ∙ wide_back (sum +ℤ times *ℤ number) (omega (arith, whole, c.requires.room)) in
    record { value = value; size = subst (λ z. unsigned_abs z ≤ unsigned_abs sum + 2 ^ 107) (sym value) whole }
