-- Each step is one of the evaluation.
use Rattle.std.proofs.lemmas.Result.{err_from_is_err_and}
use Rattle.nomos_eval.proofs.RunLemmas.{step-term, step-last, step-done, step-stops}
use Rattle.nomos_eval.proofs.evaluating.step.Goals as goal

pub returns-then-entered-ge-MAX_NODES : goal.returns-then-entered-ge-MAX_NODES
returns-then-entered-ge-MAX_NODES c =
    step-last c.args.lists.now c.args.act c.in-Term.scope c.in-Term.t c.args.evaluator.now c.args.entered c.in-Term.is
    c.if-entered-ge-MAX_NODES.true

pub returns-in-Term : goal.returns-in-Term
returns-in-Term c =
    step-term c.args.lists.now c.args.act c.in-Term.scope c.in-Term.t c.args.evaluator.now _ c.args.entered c.in-Term.is
    c.if-entered-ge-MAX_NODES.false c.in_ok-enter.ensures

pub returns-in_err-do_act : goal.returns-in_err-do_act
returns-in_err-do_act c =
    let p = err_from_is_err_and c.from_residual-in_err-do_act.result c.from_residual-in_err-do_act.ensures.1 in
    rw (p.1, p.2) (step-stops c.args.lists.now c.args.act c.args.evaluator.now c.args.entered c.in_err-do_act.field-0.0
    c.in_err-do_act.ensures)

pub returns : goal.returns
returns c =
    step-done c.args.lists.now c.args.act c.args.evaluator.now _ c.args.entered c.requires.few c.in_ok-do_act.ensures
