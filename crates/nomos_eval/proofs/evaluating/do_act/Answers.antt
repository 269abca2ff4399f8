-- What is done is done for this program.
use Rattle.nomos_eval.specs.declared.pending.Pending.TheVariants as act
use Rattle.nomos_eval.proofs.RunLemmas.{for-act}
use Rattle.nomos_eval.proofs.evaluating.do_act.Goals as goal

pub returns-in-Numbers : goal.returns-in-Numbers
returns-in-Numbers c =
    for-act c.args.lists.now c.args.act (act.Numbers c.in-Numbers.operator) c.args.evaluator.now c.numbers.new.evaluator
    c.numbers.result c.in-Numbers.is c.numbers.ensures

pub returns-in-PutBefore : goal.returns-in-PutBefore
returns-in-PutBefore c =
    for-act c.args.lists.now c.args.act (act.PutBefore) c.args.evaluator.now c.put_before.new.evaluator
    c.put_before.result
    c.in-PutBefore.is c.put_before.ensures

pub returns-in-Both : goal.returns-in-Both
returns-in-Both c =
    for-act c.args.lists.now c.args.act (act.Both c.in-Both.scope c.in-Both.right) c.args.evaluator.now
    c.both.new.evaluator
    c.both.result c.in-Both.is c.both.ensures

pub returns-in-Either : goal.returns-in-Either
returns-in-Either c =
    for-act c.args.lists.now c.args.act (act.Either c.in-Either.scope c.in-Either.right) c.args.evaluator.now
    c.either.new.evaluator c.either.result c.in-Either.is c.either.ensures

pub returns-in-Truth : goal.returns-in-Truth
returns-in-Truth c =
    for-act c.args.lists.now c.args.act (act.Truth) c.args.evaluator.now c.truth.new.evaluator c.truth.result
    c.in-Truth.is
    c.truth.ensures

pub returns-in-Not : goal.returns-in-Not
returns-in-Not c =
    for-act c.args.lists.now c.args.act (act.Not) c.args.evaluator.now c.turn_round.new.evaluator c.turn_round.result
    c.in-Not.is c.turn_round.ensures

pub returns-in-Choose : goal.returns-in-Choose
returns-in-Choose c =
    for-act c.args.lists.now c.args.act (act.Choose c.in-Choose.scope c.in-Choose.right c.in-Choose.wrong)
    c.args.evaluator.now c.choose.new.evaluator c.choose.result c.in-Choose.is c.choose.ensures

pub returns-in-Open : goal.returns-in-Open
returns-in-Open c =
    for-act c.args.lists.now c.args.act (act.Open c.in-Open.scope c.in-Open.cases) c.args.evaluator.now
    c.open.new.evaluator
    c.open.result c.in-Open.is c.open.ensures
