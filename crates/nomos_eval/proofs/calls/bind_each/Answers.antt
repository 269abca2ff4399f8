-- One more argument is bound.
use Rattle.std.proofs.Common.{◌-◌, map, sym}
use Rattle.nomos_eval.proofs.BindLemmas.{bind-some, bind-none, turned}
use Rattle.nomos_eval.proofs.calls.bind_each.Goals as goal

pub loop-left-preserved-in-Some : goal.loop-left-preserved-in-Some
loop-left-preserved-in-Some c =
    let names = map (λ par. par.0) c.args.pars.now in
    let binding = turned names c.args.count c.args.evaluator.now.values c.args.evaluator.now.scopes c.loop-left.left
    c.loop-left.evaluator.values c.loop-left.evaluator.scopes c.loop-left.place c.loop-left-test.true
    c.loop-left.invariant.0 in (
      bind-some names c.args.count c.args.evaluator.now.values c.args.evaluator.now.scopes (c.loop-left.left - 1)
          c.loop-left.evaluator.values c.loop-left.evaluator.scopes c.loop-left.place binding c.in-Some.name
          c.take-value.result c.take-value.new.values c.add_more.new.self c.in_ok-place-2.place (sym c.in-Some.ensures)
          c.take-value.ensures.taken c.take-value.ensures.rest c.in_ok-place-2.ensures.0 c.in_ok-place-2.ensures.1,
      c.loop-left.invariant.1,
      c.loop-left.invariant.2,
      c.loop-left.invariant.3,
    )

pub loop-left-preserved : goal.loop-left-preserved
loop-left-preserved c =
    let names = map (λ par. par.0) c.args.pars.now in
    let binding = turned names c.args.count c.args.evaluator.now.values c.args.evaluator.now.scopes c.loop-left.left
    c.loop-left.evaluator.values c.loop-left.evaluator.scopes c.loop-left.place c.loop-left-test.true
    c.loop-left.invariant.0 in (
      bind-none names c.args.count c.args.evaluator.now.values c.args.evaluator.now.scopes (c.loop-left.left - 1)
          c.loop-left.evaluator.values c.loop-left.evaluator.scopes c.loop-left.place binding c.take-value.new.values
          (sym c.in_default.ensures) c.take-value.ensures.rest,
      c.loop-left.invariant.1,
      c.loop-left.invariant.2,
      c.loop-left.invariant.3,
    )
