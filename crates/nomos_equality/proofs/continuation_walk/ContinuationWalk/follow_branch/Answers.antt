use Rattle.nomos_equality.specs.declared.hop.Hop.TheVariants as hop
use Rattle.nomos_equality.proofs.ContinuationLemmas.{branch-goes, continuation-below}
use Rattle.nomos_equality.proofs.VisitLemmas.{ok-map}
use Rattle.nomos_equality.proofs.WalkLemmas.{follow-goes}
use Rattle.nomos_equality.proofs.continuation_walk.ContinuationWalk.follow_branch.Goals as goal

pub meet-requires-clause-in_range : goal.meet-requires-clause-in_range
meet-requires-clause-in_range c =
    let b = c.requires.branch in
    continuation-below c.args.program.now c.args.at.0 b.0 (hop.Label c.args.branch.now.label) c.args.branch.now.goes
    c.requires.walkable.program b.1
    (branch-goes c.args.program.now c.args.at.0 b.0 c.args.branch.now c.requires.walkable.program b.1 b.2)

pub returns-clause-walks : goal.returns-clause-walks
returns-clause-walks c =
    let b = c.requires.branch in
    ok-map c.meet.result
    (λ met.
    (follow-goes c.args.program.now c.args.self.now.visits.entries c.meet.new.self.visits.entries c.args.number
    c.args.at.0 c.requires.there.0 (hop.Label c.args.branch.now.label) b.0 c.args.branch.now.goes c.requires.there.1 b.1
    (branch-goes c.args.program.now c.args.at.0 b.0 c.args.branch.now c.requires.walkable.program b.1 b.2) met).0)
    c.meet.ensures

pub returns-clause-follows : goal.returns-clause-follows
returns-clause-follows c =
    let b = c.requires.branch in
    ok-map c.meet.result
    (λ met.
    (follow-goes c.args.program.now c.args.self.now.visits.entries c.meet.new.self.visits.entries c.args.number
    c.args.at.0 c.requires.there.0 (hop.Label c.args.branch.now.label) b.0 c.args.branch.now.goes c.requires.there.1 b.1
    (branch-goes c.args.program.now c.args.at.0 b.0 c.args.branch.now c.requires.walkable.program b.1 b.2) met).1)
    c.meet.ensures
