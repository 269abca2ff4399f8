use Rattle.std.proofs.Common.{◌<◌, ◌^◌, unsigned_abs, ◌*ℤ◌, ◌-ℤ◌, ◌∙◌, to_z, of_z, arith}
use Rattle.std.specs.Int.{w64, w128}
use Rattle.std.proofs.lemmas.Int.{ints, to_z-of_z, fits_signed_from_abs}
use Rattle.nomos_forms.proofs.ProductLemmas.{wide_back}
use Rattle.nomos_simplex.proofs.NumberLemmas.{number_back}
use Rattle.nomos_simplex.proofs.renaming.raised.Goals as goal

pub returns : goal.returns
returns c =
    let product = c.product in
    let bound = to_z-of_z w64 c.bound.result (fits_signed_from_abs w64 c.bound.result (omega
    (arith, c.bound.ensures.small))) in
    let own = to_z-of_z w64 c.bound-2.result (fits_signed_from_abs w64 c.bound-2.result (omega
    (arith, c.bound-2.ensures.small))) in
    let difference = to_z-of_z w64 (c.bound.result -ℤ c.bound-2.result) (fits_signed_from_abs w64
    (c.bound.result -ℤ c.bound-2.result) (omega (arith, ints, c.bound.ensures.small, c.bound-2.ensures.small))) in
    let more = c.from.ensures ∙ (λ q. to_z w64 (of_z w64 (bound q -ℤ own q))) ∙ difference in
    let small : unsigned_abs c.from.result < 2 ^ 127 = omega
    (arith, ints, more, c.bound.ensures.small, c.bound-2.ensures.small) in
    wide_back product.result (omega (arith, product.ensures.size)) ∙ product.ensures.value
    ∙ (λ q. number_back c.args.line.now.times c.requires q *ℤ (wide_back c.from.result small ∙ more
    ∙ (λ r. c.bound.ensures.value r -ℤ c.bound-2.ensures.value r)) q)
