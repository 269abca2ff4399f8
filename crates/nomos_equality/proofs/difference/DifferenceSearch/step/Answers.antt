use Rattle.nomos_equality.specs.mirror.Search.{stays}
use Rattle.nomos_equality.proofs.SearchLemmas.{goes-get, goes-through, step-compared}
use Rattle.nomos_equality.proofs.VisitLemmas.{form-known}
use Rattle.nomos_equality.proofs.difference.DifferenceSearch.step.Goals as goal

pub returns-then-not-same_form-clause-goes : goal.returns-then-not-same_form-clause-goes
returns-then-not-same_form-clause-goes c = stays

pub follow-requires-2-clause-there : goal.follow-requires-2-clause-there
follow-requires-2-clause-there c =
    goes-get c.args.program.now c.args.self.now c.follow.new.self c.args.number c.args.visit
    c.in_ok-follow.ensures.goes c.requires.there

pub follow_labels-requires-clause-there : goal.follow_labels-requires-clause-there
follow_labels-requires-clause-there c =
    goes-get c.args.program.now c.args.self.now c.follow-2.new.self c.args.number c.args.visit
    (goes-through c.args.program.now c.args.self.now c.follow.new.self c.follow-2.new.self
    c.in_ok-follow.ensures.goes c.in_ok-follow-2.ensures.goes)
    c.requires.there

pub returns-clause-goes : goal.returns-clause-goes
returns-clause-goes c =
    goes-through c.args.program.now c.args.self.now c.follow-2.new.self c.follow_labels.new.self
    (goes-through c.args.program.now c.args.self.now c.follow.new.self c.follow-2.new.self
    c.in_ok-follow.ensures.goes c.in_ok-follow-2.ensures.goes)
    c.in_ok-follow_labels.ensures.goes

pub returns-clause-compared : goal.returns-clause-compared
returns-clause-compared c =
    step-compared c.args.program.now c.args.visit c.follow.new.self c.follow-2.new.self c.follow_labels.new.self
    (form-known c.args.program.now c.args.visit c.node.result.now c.node-2.result.now
    (record { left_there = c.node.ensures; right_there = c.node-2.ensures })
    (c.same_form.ensures.0 c.if-not-same_form.false))
    c.in_ok-follow.ensures.follows c.in_ok-follow-2.ensures.goes c.in_ok-follow-2.ensures.follows
    c.in_ok-follow_labels.ensures.goes c.in_ok-follow_labels.ensures.follows
