use Rattle.std.proofs.Common.{◌≡◌, ◌+◌, [], ◌∷◌, ◌++◌, sym, ◌∙◌, arith}
use Rattle.nomos_simplex.proofs.SolveLemmas.{range_more}
use Rattle.nomos_simplex.proofs.solving.first_nonbasic.Goals as goal

pub loop-before-preserved : goal.loop-before-preserved
loop-before-preserved c =
    let from = c.from.ensures in
    let star : c.from.result + 1 ≡ 1 + c.loop-before.before = omega (arith, from) in
    c.in_ok-push.ensures.items ∙ (λ p. c.loop-before.invariant p ++ star p ∷ [])
    ∙ sym (range_more 1 c.loop-before.before)
