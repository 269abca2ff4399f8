-- The value that was found is the topmost one.
use Rattle.std.proofs.lemmas.Result.{on_ok_weaker}
use Rattle.nomos_eval.proofs.EvaluatorLemmas.{variable-entered}
use Rattle.nomos_eval.proofs.evaluator.enter_variable.Goals as goal

pub returns : goal.returns
returns c =
    on_ok_weaker
    c.push.result
    (variable-entered c.args.scope c.args.v c.args.evaluator.now c.look_up.new.around c.look_up.new.lists
    c.in_ok-value.value c.push.new.self c.requires.sound c.in_ok-value.ensures)
    c.push.ensures
