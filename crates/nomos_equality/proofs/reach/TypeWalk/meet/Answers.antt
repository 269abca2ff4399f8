use Rattle.nomos_equality.proofs.ReachLemmas.{walks-insert, visited-insert}
use Rattle.nomos_equality.proofs.reach.TypeWalk.meet.Goals as goal

pub returns-clause-walks : goal.returns-clause-walks
returns-clause-walks c =
    walks-insert c.args.program.now c.args.self.now.visits.keys c.insert.new.self.keys c.unfold-at.result.0
    c.unfold-at.ensures.in_range c.in_ok-insert.ensures.keys

pub returns-clause-met : goal.returns-clause-met
returns-clause-met c =
    visited-insert c.args.program.now c.args.self.now.visits.keys c.insert.new.self.keys c.args.t c.unfold-at.result.0
    c.unfold-at.ensures.unfolds c.in_ok-insert.ensures.keys
