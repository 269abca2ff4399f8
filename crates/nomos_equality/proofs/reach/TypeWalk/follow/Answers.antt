use Rattle.std.proofs.Common.{sym, ◌∙◌}
use Rattle.nomos_equality.proofs.PathLaws.{part-below}
use Rattle.nomos_equality.proofs.ReachLemmas.{walks-nowhere, part-known, part-none}
use Rattle.nomos_equality.proofs.VisitLemmas.{ok-map}
use Rattle.nomos_equality.proofs.reach.TypeWalk.follow.Goals as goal

pub meet-requires-clause-in_range : goal.meet-requires-clause-in_range
meet-requires-clause-in_range c =
    part-below c.args.program.now c.args.at.0 c.node.result.now c.args.hop c.in-Some.part c.requires.formed.program
    c.node.ensures (sym c.part_by.ensures ∙ c.in-Some.is)

pub returns-in-Some-clause-meets : goal.returns-in-Some-clause-meets
returns-in-Some-clause-meets c =
    ok-map c.meet.result
    (λ met.
    part-known c.args.program.now c.args.at.0 c.args.hop c.node.result.now c.in-Some.part c.meet.new.self.visits.keys
    c.node.ensures (sym c.part_by.ensures ∙ c.in-Some.is) met)
    c.meet.ensures.met

pub returns-in-None-clause-walks : goal.returns-in-None-clause-walks
returns-in-None-clause-walks c = walks-nowhere c.args.program.now c.args.self.now.visits.keys

pub returns-in-None-clause-meets : goal.returns-in-None-clause-meets
returns-in-None-clause-meets c =
    part-none c.args.program.now c.args.at.0 c.args.hop c.node.result.now c.args.self.now.visits.keys c.node.ensures
    (sym c.part_by.ensures ∙ c.in-None.is)
