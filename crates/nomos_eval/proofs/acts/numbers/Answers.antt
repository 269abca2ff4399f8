-- An operator takes the two topmost values.
use Rattle.std.proofs.lemmas.Result.{err_from_is_err_and}
use Rattle.nomos_eval.proofs.ActLemmas.{numbers-done, numbers-fault}
use Rattle.nomos_eval.proofs.acts.numbers.Goals as goal

pub returns-in_err-value : goal.returns-in_err-value
returns-in_err-value c =
    let p = err_from_is_err_and c.from_residual.result c.from_residual.ensures.1 in
    rw
    (p.1, p.2)
    (numbers-fault c.args.operator c.args.evaluator.now c.take-right.new.values c.take-left.new.values
    c.take-left.result
    c.take-right.result c.in_err-value.field-0.0 c.take-right.ensures.taken c.take-right.ensures.rest
    c.take-left.ensures.taken c.take-left.ensures.rest c.in_err-value.ensures)

pub returns : goal.returns
returns c =
    numbers-done c.args.operator c.args.evaluator.now c.take-right.new.values c.take-left.new.values c.push.new.self
    c.take-left.result c.take-right.result c.in_ok-value.value c.requires c.take-right.ensures.taken
    c.take-right.ensures.rest c.take-left.ensures.taken c.take-left.ensures.rest c.in_ok-value.ensures
    c.in_ok-push.ensures
