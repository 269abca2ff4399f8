use Rattle.nomos_equality.specs.declared.hop.Hop.TheVariants as hop
use Rattle.nomos_equality.proofs.ContinuationLemmas.{branch-goes}
use Rattle.nomos_equality.proofs.PathLaws.{part-below}
use Rattle.nomos_equality.proofs.ReachLemmas.{part-known}
use Rattle.nomos_equality.proofs.VisitLemmas.{ok-map}
use Rattle.nomos_equality.proofs.reach.TypeWalk.follow_branch.Goals as goal

pub meet-requires-clause-in_range : goal.meet-requires-clause-in_range
meet-requires-clause-in_range c =
    let b = c.requires.branch in
    part-below c.args.program.now c.args.at.0 b.0 (hop.Label c.args.branch.now.label) c.args.branch.now.goes
    c.requires.formed.program b.1
    (branch-goes c.args.program.now c.args.at.0 b.0 c.args.branch.now c.requires.formed.program b.1 b.2)

pub returns-clause-meets : goal.returns-clause-meets
returns-clause-meets c =
    let b = c.requires.branch in
    ok-map c.meet.result
    (λ met.
    part-known c.args.program.now c.args.at.0 (hop.Label c.args.branch.now.label) b.0 c.args.branch.now.goes
    c.meet.new.self.visits.keys b.1
    (branch-goes c.args.program.now c.args.at.0 b.0 c.args.branch.now c.requires.formed.program b.1 b.2) met)
    c.meet.ensures.met
