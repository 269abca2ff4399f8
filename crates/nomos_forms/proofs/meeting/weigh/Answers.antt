use Rattle.std.proofs.Common.{rules, get_or, arith, pos, ◌+ℤ◌, ◌*ℤ◌, FitsSigned, sym, ◌∙◌}
use Rattle.std.specs.Int.{w64, w128}
use Rattle.std.proofs.lemmas.Int.{to_z-of_z, fits_signed_from_abs}
use Rattle.nomos_forms.proofs.LinearLemmas.{dot_more}
use Rattle.nomos_forms.proofs.meeting.weigh.Goals as goal

-- one place more
pub loop-i-preserved : goal.loop-i-preserved
loop-i-preserved c =
    let i = c.loop-i.i in
    let cs = c.args.coefs.now in
    let xs = c.args.amounts.now in
    let size = c.add_product-sum.ensures.size in
    let fits : FitsSigned w128 c.add_product-sum.result = search rules in
    let back = to_z-of_z w128 c.add_product-sum.result fits in
    let small = c.requires.coefs i (pos 0) c.loop-i-test.true in
    let coef = to_z-of_z w64 (get_or cs i (pos 0)) (fits_signed_from_abs w64 (get_or cs i (pos 0)) (omega
    (arith, small))) in
    let more = dot_more cs xs i c.loop-i-test.true (omega (arith, c.requires.width)) in
    let so_far = c.loop-i.invariant.0 in (
      back ∙ c.add_product-sum.ensures.value ∙ (λ p. so_far p +ℤ pos (get_or xs i 0) *ℤ coef p)
          ∙ sym more,
      rw back (omega arith),
    )
