use Rattle.std.proofs.Common.{sym, ◌∙◌}
use Rattle.nomos_equality.proofs.VisitLemmas.{ok-map}
use Rattle.nomos_equality.specs.mirror.Walk.{stays}
use Rattle.nomos_equality.proofs.ContinuationLemmas.{continuation-below}
use Rattle.nomos_equality.proofs.WalkLemmas.{follow-goes}
use Rattle.nomos_equality.proofs.continuation_walk.ContinuationWalk.follow.Goals as goal

pub meet-requires-clause-in_range : goal.meet-requires-clause-in_range
meet-requires-clause-in_range c =
    continuation-below c.args.program.now c.args.at.0 c.node.result.now c.args.hop c.in-Some.next
    c.requires.walkable.program c.node.ensures (sym c.continuation_by.ensures ∙ c.in-Some.is)

pub returns-in-Some-clause-walks : goal.returns-in-Some-clause-walks
returns-in-Some-clause-walks c =
    ok-map c.meet.result
    (λ met.
    (follow-goes c.args.program.now c.args.self.now.visits.entries c.meet.new.self.visits.entries c.args.number
    c.args.at.0 c.requires.there.0 c.args.hop c.node.result.now c.in-Some.next c.requires.there.1 c.node.ensures
    (sym c.continuation_by.ensures ∙ c.in-Some.is) met).0)
    c.meet.ensures

pub returns-in-Some-clause-follows : goal.returns-in-Some-clause-follows
returns-in-Some-clause-follows c =
    ok-map c.meet.result
    (λ met.
    (follow-goes c.args.program.now c.args.self.now.visits.entries c.meet.new.self.visits.entries c.args.number
    c.args.at.0 c.requires.there.0 c.args.hop c.node.result.now c.in-Some.next c.requires.there.1 c.node.ensures
    (sym c.continuation_by.ensures ∙ c.in-Some.is) met).1)
    c.meet.ensures

pub returns-in-None-clause-walks : goal.returns-in-None-clause-walks
returns-in-None-clause-walks c = stays
