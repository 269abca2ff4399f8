use Rattle.std.proofs.Common.{subst, sym}
use Rattle.std.proofs.lemmas.Result.{IfOk-weaker}
use Rattle.nomos_check.specs.mirror.Passing.{TellsAlike}
use Rattle.nomos_check.specs.mirror.StandingData.{shape_of}
use Rattle.nomos_check.proofs.ChannelLaws.{linear-has_place}
use Rattle.nomos_check.proofs.PassingSteps.{reference-in_range, reference-passes, nothing-passes, channel-stays, channel-passes}
use Rattle.nomos_check.proofs.passing.pass_channel.Goals as goal

pub are_alike-requires-clause-own : goal.are_alike-requires-clause-own
are_alike-requires-clause-own c =
    reference-in_range c.args.program.now (shape_of c.args.now.now) c.args.v c.in-Some.own c.requires.formed.program
    c.requires.judgement (sym c.in-Some.ensures)

pub returns-in-Some-clause-tells : goal.returns-in-Some-clause-tells
returns-in-Some-clause-tells c =
    let lists = c.args.program.now in
    let s = c.args.now.now in
    let own = c.in-Some.own in
    IfOk-weaker c.are_alike.result (TellsAlike lists own c.args.t c.args.asked.now c.are_alike.new.asked) _
    (reference-passes lists s c.args.v own c.args.t c.args.asked.now c.are_alike.new.asked (sym c.in-Some.ensures))
    c.are_alike.ensures.tells

pub returns-in-None-clause-tells : goal.returns-in-None-clause-tells
returns-in-None-clause-tells c =
    λ k.
    nothing-passes c.args.program.now (shape_of c.args.now.now) c.args.v c.args.t k (sym c.in_default.ensures)
    (sym c.in-None.ensures)

pub are_alike-requires-2-clause-own : goal.are_alike-requires-2-clause-own
are_alike-requires-2-clause-own c =
    linear-has_place c.args.program.now (shape_of c.args.now.now) c.args.v c.in-Some-get.own
    c.requires.formed.program c.requires.judgement (sym c.in-Some-get.ensures)

pub returns-then-not-branch-clause-tells : goal.returns-then-not-branch-clause-tells
returns-then-not-branch-clause-tells c =
    let lists = c.args.program.now in
    let own = c.in-Some-get.own in
    let differ =
    subst (TellsAlike lists own c.args.t c.args.asked.now c.are_alike-2.new.asked) c.if-not-branch.true
    c.in_ok-are_alike.ensures.tells
    in
    λ k.
    channel-stays lists (shape_of c.args.now.now) c.args.v own c.args.t k (sym c.in_default.ensures)
    (sym c.in-Some-get.ensures) differ

pub returns-clause-tells : goal.returns-clause-tells
returns-clause-tells c =
    let lists = c.args.program.now in
    let own = c.in-Some-get.own in
    let tells =
    subst (TellsAlike lists own c.args.t c.args.asked.now c.are_alike-2.new.asked) c.if-not-branch.false
    c.in_ok-are_alike.ensures.tells
    in
    channel-passes lists c.args.now.now c.args.v own c.args.t c.args.asked.now c.are_alike-2.new.asked c.unbind.new.self
    (sym c.in_default.ensures) (sym c.in-Some-get.ensures) c.unbind.ensures tells
