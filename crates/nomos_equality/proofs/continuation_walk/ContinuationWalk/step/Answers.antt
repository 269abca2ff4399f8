use Rattle.nomos_equality.proofs.VisitLemmas.{ok-map}
use Rattle.nomos_equality.proofs.WalkLemmas.{walks-get, walks-through, all-followed, ok-both}
use Rattle.nomos_equality.proofs.continuation_walk.ContinuationWalk.step.Goals as goal

pub follow_labels-requires-clause-there : goal.follow_labels-requires-clause-there
follow_labels-requires-clause-there c = (
  c.requires.there.0,
  walks-get c.args.program.now c.args.self.now.visits.entries c.follow.new.self.visits.entries c.args.number
      (c.args.at.0, c.requires.there.0) c.in_ok-follow.ensures.walks c.requires.there.1,
)

pub returns-clause-walks : goal.returns-clause-walks
returns-clause-walks c =
    ok-map c.follow_labels.result
    (λ walks. walks-through c.args.program.now c.args.self.now.visits.entries c.follow.new.self.visits.entries
    c.follow_labels.new.self.visits.entries c.in_ok-follow.ensures.walks walks)
    c.follow_labels.ensures.walks

pub returns-clause-follows : goal.returns-clause-follows
returns-clause-follows c =
    ok-both c.follow_labels.result
    (λ walks labels. all-followed c.args.program.now c.args.at.0 c.follow.new.self.visits.entries
    c.follow_labels.new.self.visits.entries c.in_ok-follow.ensures.follows walks labels)
    c.follow_labels.ensures.walks c.follow_labels.ensures.follows
