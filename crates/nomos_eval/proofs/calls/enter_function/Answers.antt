-- The body of a function is entered.
use Rattle.std.proofs.Common.{map, sym, ap}
use Rattle.nomos_eval.proofs.BindLemmas.{enter-none-at, enter-done-at}
use Rattle.nomos_eval.proofs.calls.enter_function.Goals as goal

pub returns-in_default : goal.returns-in_default
returns-in_default c =
    enter-none-at c.args.lists.now c.args.calls c.args.f c.args.count c.args.evaluator.now _ _ _ _ c.requires
    c.in_ok-_place.ensures.0 _ _ _ _ c.in_ok-_place.ensures.1 c.in_ok-_place.ensures.2 c.in_ok-_place.ensures.3 (sym
    c.in_default.ensures)
    c.in_ok-push.ensures

pub returns : goal.returns
returns c =
    enter-done-at c.args.lists.now c.args.calls c.args.f c.args.count c.args.evaluator.now _ _ _ _ c.requires
    c.in_ok-variables.ensures.0 c.in-Some.function.now _ _ _ _ c.in_ok-variables.ensures.1 c.in_ok-variables.ensures.2
    c.in_ok-variables.ensures.3
    (sym c.in-Some.ensures) (ap (map (λ par. par.0)) c.as_slice.ensures) c.if-calls-ge-MAX_CALLS.false
    c.in_ok-push-2.ensures
