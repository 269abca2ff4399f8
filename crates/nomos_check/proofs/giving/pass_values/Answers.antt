use Rattle.std.proofs.Common.{List, length, subst, subst₂, sym, arith}
use Rattle.std.proofs.lemmas.List.{drop_all}
use Rattle.nomos_ir.specs.declared.code_node.ValueArg.{ValueArg}
use Rattle.nomos_ir.specs.declared.declaration.Par.{Par}
use Rattle.nomos_check.specs.mirror.Passing.{TellsValue, ValuesPassed}
use Rattle.nomos_check.specs.mirror.StandingData.{shape_of}
use Rattle.nomos_check.proofs.GivingSteps.{terms-each, value-ascends, values-none, values-count, turn-whole, turn-rest, turn-stuck}
use Rattle.nomos_check.proofs.giving.pass_values.Goals as goal

pub returns-then-args-pars-clause-tells : goal.returns-then-args-pars-clause-tells
returns-then-args-pars-clause-tells c =
    λ left all.
    c.if-args-pars.true
    (values-count c.args.program.now (shape_of c.args.now.now) c.args.args.now c.args.pars.now left all)

pub pass_value-requires-clause-term : goal.pass_value-requires-clause-term
pass_value-requires-clause-term c =
    terms-each (length c.args.program.now.terms) c.args.args.now c.requires.terms c.loop-i.i _ (omega arith)

pub returns-then-not-branch-clause-tells : goal.returns-then-not-branch-clause-tells
returns-then-not-branch-clause-tells c =
    let lists = c.args.program.now in
    let stays =
    subst (TellsValue lists c.loop-i.now c.pass_value.new.now _ _ c.loop-i.asked c.pass_value.new.asked)
    c.if-not-branch.true c.in_ok-pass_value.ensures.tells
    in
    turn-stuck lists c.args.args.now c.args.pars.now c.loop-i.i _ _ (omega arith) c.loop-i-test.true
    (shape_of c.args.now.now) (shape_of c.loop-i.now) stays c.loop-i.invariant.rest

pub loop-i-preserved : goal.loop-i-preserved
loop-i-preserved c =
    let lists = c.args.program.now in
    let passed =
    subst (TellsValue lists c.loop-i.now c.pass_value.new.now _ _ c.loop-i.asked c.pass_value.new.asked)
    c.if-not-branch.false c.in_ok-pass_value.ensures.tells
    in
    record {
      ready = c.pass_value.ensures.ready;
      kept = λ known front. c.pass_value.ensures.kept known (c.loop-i.invariant.kept known front);
      ascends = value-ascends c.loop-i.invariant.ascends passed.passes;
      whole =
          turn-whole lists c.args.args.now c.args.pars.now c.loop-i.i _ _ (omega arith) c.loop-i-test.true
          c.args.now.now c.loop-i.now c.pass_value.new.now c.args.asked.now c.loop-i.asked c.pass_value.new.asked
          c.loop-i.invariant.ascends passed c.loop-i.invariant.whole;
      rest =
          turn-rest lists c.args.args.now c.args.pars.now c.loop-i.i _ _ (omega arith) c.loop-i-test.true
          (shape_of c.args.now.now) (shape_of c.loop-i.now) (shape_of c.pass_value.new.now) passed.passes
          c.loop-i.invariant.rest;
    }

pub returns-clause-tells : goal.returns-clause-tells
returns-clause-tells c =
    let lists = c.args.program.now in
    let args = c.args.args.now in
    let pars = c.args.pars.now in
    let no_args = drop_all c.loop-i.i args (omega arith) in
    let no_pars = drop_all c.loop-i.i pars (omega arith) in
    let Passed : List ValueArg → List Par → Type 0 =
    λ a b. ValuesPassed lists c.loop-i.now c.loop-i.now a b c.loop-i.asked c.loop-i.asked
    in
    c.loop-i.invariant.whole c.loop-i.now c.loop-i.asked
    (subst₂ Passed (sym no_args) (sym no_pars) (values-none lists c.loop-i.now c.loop-i.asked))

pub returns-in_err-pass_value-clause-kept : goal.returns-in_err-pass_value-clause-kept
returns-in_err-pass_value-clause-kept c = λ known front.
    c.pass_value.ensures.kept known (c.loop-i.invariant.kept known front)

pub returns-then-not-branch-clause-kept : goal.returns-then-not-branch-clause-kept
returns-then-not-branch-clause-kept c = λ known front.
    c.pass_value.ensures.kept known (c.loop-i.invariant.kept known front)
