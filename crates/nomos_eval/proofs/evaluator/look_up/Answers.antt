-- A variable is bound in the scope, or stands around it.
use Rattle.std.proofs.lemmas.Result.{IfOk-weaker}
use Rattle.nomos_eval.proofs.EvaluatorLemmas.{found-bound, found-nothing, found-around}
use Rattle.nomos_eval.proofs.evaluator.look_up.Goals as goal

pub returns-in-Some : goal.returns-in-Some
returns-in-Some c =
    found-bound c.args.scopes.now c.args.scope c.args.v c.args.around.now c.args.lists.now c.in-Some.value
    c.requires.rises c.requires.scopes c.in-Some.ensures

pub returns-then-scope-gt0 : goal.returns-then-scope-gt0
returns-then-scope-gt0 c =
    found-nothing c.args.scopes.now c.args.scope c.args.v c.args.around.now c.args.lists.now c.requires.rises
    c.if-scope-gt0.true c.in_default.ensures

pub returns : goal.returns
returns c =
    IfOk-weaker c.look_around.result _ _
    (λ d looked. found-around c.args.scopes.now c.args.scope c.args.v c.args.around.now c.look_around.new.around
    c.args.lists.now c.look_around.new.lists d c.if-scope-gt0.false c.in_default.ensures looked)
    c.look_around.ensures
