-- Each form of term leaves what its evaluation asks for.
use Rattle.std.proofs.lemmas.Result.{on_ok_weaker}
use Rattle.nomos_eval.proofs.EvaluatorLemmas.{variable-found, nil-found, call-found}
use Rattle.nomos_eval.proofs.evaluator.enter_node.Goals as goal

pub returns-in-Var : goal.returns-in-Var
returns-in-Var c =
    on_ok_weaker
    c.enter_variable.result
    (variable-found c.args.node.now c.args.scope c.in-Var.field-0 c.in-Var.v c.args.evaluator.now
    c.enter_variable.new.evaluator c.in-Var.is)
    c.enter_variable.ensures

pub returns-in-Call : goal.returns-in-Call
returns-in-Call c =
    on_ok_weaker
    c.call.result
    (λ planned. call-found c.args.node.now c.args.scope c.in-Call.field-0 c.in-Call.f c.in-Call.values
    c.as_slice.result.now c.args.evaluator.now c.call.new.todo c.in-Call.is c.requires.sound c.requires.inside planned
    c.as_slice.ensures)
    c.call.ensures

pub returns-in_ok-place-in-Nil : goal.returns-in_ok-place-in-Nil
returns-in_ok-place-in-Nil c =
    on_ok_weaker
    c.push-in-Nil.result
    (nil-found c.args.node.now c.args.scope c.in-Nil.field-0 c.in-Nil.field-1 c.args.evaluator.now
    c.in_ok-place-in-Nil.place c.add_empty.new.self c.push-in-Nil.new.self c.in-Nil.is c.requires.sound
    c.in_ok-place-in-Nil.ensures.0 c.in_ok-place-in-Nil.ensures.1)
    c.push-in-Nil.ensures
