use Rattle.std.proofs.Common.{rules, get_or, arith, pos, ◌+ℤ◌, ◌*ℤ◌, FitsSigned, sym, ◌∙◌}
use Rattle.std.specs.Int.{w64, w128}
use Rattle.std.proofs.lemmas.Int.{to_z-of_z}
use Rattle.nomos_simplex.proofs.LineLemmas.{sum_of_more}
use Rattle.nomos_simplex.proofs.NumberLemmas.{number_back}
use Rattle.nomos_simplex.proofs.bounds.sum_at_bounds.Goals as goal

-- one place more
pub loop-i-preserved : goal.loop-i-preserved
loop-i-preserved c =
    let i = c.loop-i.i in
    let cs = c.args.coefs.now in
    let bs = c.args.bounds.now in
    let size = c.add_bounded-sum.ensures.size in
    let fits : FitsSigned w128 c.add_bounded-sum.result = search rules in
    let back = to_z-of_z w128 c.add_bounded-sum.result fits in
    let coef = number_back (get_or cs i (pos 0)) (c.requires.coefs i (pos 0) c.loop-i-test.true) in
    let fits_b : FitsSigned w64 (get_or bs i (pos 0)) = search rules in
    let bound = to_z-of_z w64 (get_or bs i (pos 0)) fits_b in
    let more = sum_of_more bs cs i (omega (arith, c.requires.width)) c.loop-i-test.true in
    let so_far = c.loop-i.invariant.0 in
    (back ∙ c.add_bounded-sum.ensures.value ∙ (λ p. so_far p +ℤ coef p *ℤ bound p) ∙ sym more, rw back (omega arith))
