use Rattle.std.proofs.Common.{sym, ap, ◌∙◌, is_some}
use Rattle.nomos_equality.proofs.ReachLemmas.{free-begins, free-more, free-ends, visit-below, none-where}
use Rattle.nomos_equality.proofs.reach.pays_nowhere.Goals as goal

pub loop-at-init : goal.loop-at-init
loop-at-init c =
    free-begins c.args.program.now c.args.start c.new-walk.result.visits.keys c.meet.new.self.visits.keys
    c.new-walk.ensures c.in_ok-meet.ensures.walks c.in_ok-meet.ensures.met

pub node-requires : goal.node-requires
node-requires c =
    visit-below c.args.program.now c.loop-at.walk.visits.keys c.loop-at.next c.in-Some.at c.loop-at.invariant.types
    (sym c.visit.ensures.there ∙ c.in-Some.is)

pub step-requires-clause-in_range : goal.step-requires-clause-in_range
step-requires-clause-in_range c =
    visit-below c.args.program.now c.loop-at.walk.visits.keys c.loop-at.next c.in-Some.at c.loop-at.invariant.types
    (sym c.visit.ensures.there ∙ c.in-Some.is)

pub loop-at-preserved : goal.loop-at-preserved
loop-at-preserved c =
    free-more c.args.program.now c.args.start c.in-Some.at c.node.result.now c.loop-at.walk.visits.keys
    c.step.new.self.visits.keys c.loop-at.next c.loop-at.invariant (sym c.visit.ensures.there ∙ c.in-Some.is)
    c.node.ensures
    (none-where _ (ap is_some (sym c.paid_by.ensures) ∙ sym c.is_some.ensures ∙ c.if-is_some.false))
    c.in_ok-step.ensures.walks c.in_ok-step.ensures.meets

pub returns : goal.returns
returns c =
    λ yes. free-ends c.args.program.now c.args.start c.loop-at.walk.visits.keys c.loop-at.next c.loop-at.invariant
    (sym c.visit.ensures.there ∙ c.in_default.is)
