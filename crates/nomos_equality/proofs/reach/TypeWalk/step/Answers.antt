use Rattle.nomos_equality.proofs.ReachLemmas.{walks-through, all-met}
use Rattle.nomos_equality.proofs.VisitLemmas.{ok-map, ok-both}
use Rattle.nomos_equality.proofs.reach.TypeWalk.step.Goals as goal

pub returns-clause-walks : goal.returns-clause-walks
returns-clause-walks c =
    ok-map c.follow_labels.result
    (λ walks.
    walks-through c.args.program.now c.args.self.now.visits.keys c.follow-2.new.self.visits.keys
    c.follow_labels.new.self.visits.keys
    (walks-through c.args.program.now c.args.self.now.visits.keys c.follow.new.self.visits.keys
    c.follow-2.new.self.visits.keys c.in_ok-follow.ensures.walks c.in_ok-follow-2.ensures.walks) walks)
    c.follow_labels.ensures.walks

pub returns-clause-meets : goal.returns-clause-meets
returns-clause-meets c =
    ok-map c.follow_labels.result
    (λ last.
    all-met c.args.program.now c.args.at.0 c.follow.new.self.visits.keys c.follow-2.new.self.visits.keys
    c.follow_labels.new.self.visits.keys c.in_ok-follow.ensures.meets c.in_ok-follow-2.ensures.walks
    c.in_ok-follow-2.ensures.meets last.0 last.1)
    (ok-both _ _ c.follow_labels.result c.follow_labels.ensures.walks c.follow_labels.ensures.meets)
