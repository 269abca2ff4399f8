use Rattle.std.proofs.Common.{subst, subst₂, sym, arith}
use Rattle.std.proofs.lemmas.List.{drop_all}
use Rattle.std.proofs.Common.{List}
use Rattle.nomos_ir.specs.declared.ids.TypeId.{TypeId}
use Rattle.nomos_ir.specs.declared.ids.VarId.{VarId}
use Rattle.nomos_types.proofs.ArgumentsLaws.{passes-channel_left}
use Rattle.nomos_check.specs.mirror.Passing.{TellsChannel, ChannelsPassed}
use Rattle.nomos_check.specs.mirror.StandingData.{shape_of}
use Rattle.nomos_check.proofs.PassingSteps.{channels-none, channels-count, turn-whole, turn-rest, turn-stuck}
use Rattle.nomos_check.proofs.passing.pass_channels.Goals as goal

pub returns-then-channels-pars-clause-tells : goal.returns-then-channels-pars-clause-tells
returns-then-channels-pars-clause-tells c =
    λ left all.
    c.if-channels-pars.true
    (channels-count c.args.program.now (shape_of c.args.now.now) c.args.channels.now c.args.pars.now left all)

pub returns-then-not-branch-clause-tells : goal.returns-then-not-branch-clause-tells
returns-then-not-branch-clause-tells c =
    let lists = c.args.program.now in
    let stays =
    subst (TellsChannel lists c.loop-i.now c.pass_channel.new.now _ _ c.loop-i.asked c.pass_channel.new.asked)
    c.if-not-branch.true c.in_ok-pass_channel.ensures.tells
    in
    turn-stuck lists c.args.channels.now c.args.pars.now c.loop-i.i _ _ (omega arith) c.loop-i-test.true
    (shape_of c.args.now.now) (shape_of c.loop-i.now) stays c.loop-i.invariant.rest

pub loop-i-preserved : goal.loop-i-preserved
loop-i-preserved c =
    let lists = c.args.program.now in
    let passed =
    subst (TellsChannel lists c.loop-i.now c.pass_channel.new.now _ _ c.loop-i.asked c.pass_channel.new.asked)
    c.if-not-branch.false c.in_ok-pass_channel.ensures.tells
    in
    record {
      ready = c.pass_channel.ensures.ready;
      kept = λ known front. c.pass_channel.ensures.kept known (c.loop-i.invariant.kept known front);
      judgement = (passes-channel_left c.loop-i.invariant.judgement passed.passes).judgement;
      whole =
          turn-whole lists c.args.channels.now c.args.pars.now c.loop-i.i _ _ (omega arith) c.loop-i-test.true
          c.args.now.now c.loop-i.now c.pass_channel.new.now c.args.asked.now c.loop-i.asked c.pass_channel.new.asked
          c.loop-i.invariant.judgement passed c.loop-i.invariant.whole;
      rest =
          turn-rest lists c.args.channels.now c.args.pars.now c.loop-i.i _ _ (omega arith) c.loop-i-test.true
          (shape_of c.args.now.now) (shape_of c.loop-i.now) (shape_of c.pass_channel.new.now) passed.passes
          c.loop-i.invariant.rest;
    }

pub returns-clause-tells : goal.returns-clause-tells
returns-clause-tells c =
    let lists = c.args.program.now in
    let vs = c.args.channels.now in
    let pars = c.args.pars.now in
    let no_vs = drop_all c.loop-i.i vs (omega arith) in
    let no_pars = drop_all c.loop-i.i pars (omega arith) in
    let Passed : List VarId → List (VarId × TypeId) → Type 0 =
    λ a b. ChannelsPassed lists c.loop-i.now c.loop-i.now a b c.loop-i.asked c.loop-i.asked
    in
    c.loop-i.invariant.whole c.loop-i.now c.loop-i.asked
    (subst₂ Passed (sym no_vs) (sym no_pars) (channels-none lists c.loop-i.now c.loop-i.asked))

pub returns-in_err-pass_channel-clause-kept : goal.returns-in_err-pass_channel-clause-kept
returns-in_err-pass_channel-clause-kept c = λ known front.
    c.pass_channel.ensures.kept known (c.loop-i.invariant.kept known front)

pub returns-then-not-branch-clause-kept : goal.returns-then-not-branch-clause-kept
returns-then-not-branch-clause-kept c = λ known front.
    c.pass_channel.ensures.kept known (c.loop-i.invariant.kept known front)
