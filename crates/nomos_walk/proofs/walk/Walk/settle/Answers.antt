use Rattle.std.proofs.Common.{◌≡◌, ◌∙◌, ◌+◌, ap, arith, length, subst, sym}
use Rattle.nomos_types.specs.Acceptance.{Acceptance, IsAccepted}
use Rattle.nomos_walk.proofs.WalkLemmas.{walk-counted}
use Rattle.nomos_walk.specs.WalkState.{WalkState}
use Rattle.nomos_walk.proofs.walk.Walk.settle.Goals as goal

pub returns-clause-walk : goal.returns-clause-walk
returns-clause-walk g c =
    let before : WalkState = c.args.self.now in
    let view = c.self.view_is in
    let made : c.self.inside.made + length c.firings.result.now ≡ before.made + length c.args.under.world.firings =
    let here = ap (λ (x : WalkState). x.made) view in
    let count = ap length c.firings.ensures in
    omega (arith, here, count)
    in
    walk-counted before _ (length c.args.under.world.firings) (ap (λ (x : WalkState). x.accepted) view)
    (ap (λ (x : WalkState). x.limit) view) made (ap (λ (x : WalkState). x.papers) view)

pub returns-clause-stands : goal.returns-clause-stands
returns-clause-stands g c = λ limit stands allowed.
    let program = c.accepted.ensures ∙ ap (λ (x : WalkState). x.accepted) c.self.view_is in
    c.leave.ensures.stands c.args.self.now.accepted limit
    (subst IsAccepted program c.know.ensures.accepted) stands allowed
