use Rattle.std.proofs.Common.{List, Bool, subst, subst₂}
use Rattle.std.proofs.lemmas.Result.{IfOk-weaker}
use Rattle.nomos_ir.specs.declared.code_node.ValueArg.{ValueArg}
use Rattle.nomos_ir.specs.declared.declaration.Par.{Par}
use Rattle.nomos_ir.specs.declared.ids.TypeId.{TypeId}
use Rattle.nomos_ir.specs.declared.ids.VarId.{VarId}
use Rattle.std.specs.Result.{IfOk}
use Rattle.nomos_check.specs.mirror.Passing.{TellsChannels, TellsValues, ValuesPassed}
use Rattle.nomos_check.specs.mirror.StandingData.{shape_of}
use Rattle.nomos_check.proofs.ArgumentSteps.{values-judgement, arguments-pass}
use Rattle.nomos_check.proofs.argument_rules.pass_arguments.Goals as goal

pub pass_channels-requires-clause-judgement : goal.pass_channels-requires-clause-judgement
pass_channels-requires-clause-judgement c =
    let lists = c.args.program.now in
    let s = c.args.now.now in
    let mid = c.pass_values.new.now in
    let old = c.args.asked.now in
    let between = c.pass_values.new.asked in
    let Tells : Bool → Type 0 =
    λ b. TellsValues lists s mid c.as_slice.result.now c.as_slice-2.result.now old between b
    in
    let passed = subst Tells c.if-not-branch.false c.in_ok-pass_values.ensures.tells in
    let Passed : List ValueArg → List Par → Type 0 = λ args pars. ValuesPassed lists s mid args pars old between in
    let values = subst₂ Passed c.as_slice.ensures c.as_slice-2.ensures passed in
    values-judgement lists (shape_of s) (shape_of mid) c.args.d.now c.args.args.now c.requires.judgement values.passes

pub returns-clause-tells : goal.returns-clause-tells
returns-clause-tells c =
    let lists = c.args.program.now in
    let s = c.args.now.now in
    let mid = c.pass_values.new.now in
    let next = c.pass_channels.new.now in
    let old = c.args.asked.now in
    let between = c.pass_values.new.asked in
    let new = c.pass_channels.new.asked in
    let d = c.args.d.now in
    let args = c.args.args.now in
    let Tells : Bool → Type 0 =
    λ b. TellsValues lists s mid c.as_slice.result.now c.as_slice-2.result.now old between b
    in
    let passed = subst Tells c.if-not-branch.false c.in_ok-pass_values.ensures.tells in
    let Passed : List ValueArg → List Par → Type 0 = λ xs pars. ValuesPassed lists s mid xs pars old between in
    let values = subst₂ Passed c.as_slice.ensures c.as_slice-2.ensures passed in
    let Told : List VarId → List (VarId × TypeId) → Type 0 =
    λ vs pars. IfOk c.pass_channels.result (TellsChannels lists mid next vs pars between new)
    in
    let told = subst₂ Told c.as_slice-3.ensures c.as_slice-4.ensures c.pass_channels.ensures.tells in
    IfOk-weaker c.pass_channels.result (TellsChannels lists mid next args.channels d.channels between new) _
    (arguments-pass lists s mid next d args old between new values) told

pub returns-clause-kept : goal.returns-clause-kept
returns-clause-kept c = λ known front. c.pass_channels.ensures.kept known (c.pass_values.ensures.kept known front)
