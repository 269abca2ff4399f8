use Rattle.std.proofs.Common.{rules, take, arith, pos, ◌+ℤ◌, ◌*ℤ◌, FitsSigned, sym, ◌∙◌, ap}
use Rattle.std.specs.Int.{w64, w128}
use Rattle.std.proofs.lemmas.Int.{to_z-of_z}
use Rattle.nomos_forms.specs.Refuting.{least_in, weighted}
use Rattle.nomos_forms.proofs.RowLemmas.{weighted_more}
use Rattle.nomos_forms.proofs.refuting.sum_of_least.Goals as goal

-- one weight more
pub loop-weight-preserved : goal.loop-weight-preserved
loop-weight-preserved c =
    let part = least_in in
    let it = c.weight-item.result in
    let size = c.add_product-sum.ensures.size in
    let fits : FitsSigned w128 c.add_product-sum.result = search rules in
    let back = to_z-of_z w128 c.add_product-sum.result fits in
    let fits_coef : FitsSigned w64 c.least.result = search rules in
    let coef = to_z-of_z w64 c.least.result fits_coef ∙ c.least.ensures in
    let more = weighted_more part c.args.weights.now c.loop-weight.weight-index it c.loop-weight-test.true
    ∙ ap (λ w. weighted part (take c.loop-weight.weight-index c.args.weights.now) +ℤ pos w.times *ℤ part w.of)
    (sym c.weight-item.is) in
    let so_far = c.loop-weight.invariant.0 in (
      back ∙ c.add_product-sum.ensures.value ∙ (λ p. so_far p +ℤ pos it.times *ℤ coef p)
          ∙ sym more,
      rw back (omega arith),
    )
