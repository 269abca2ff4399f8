-- The arguments behind are bound.
use Rattle.std.proofs.Common.{◌≡◌, map}
use Rattle.nomos_eval.specs.mirror.Evaluator.{IsBinding}
use Rattle.nomos_eval.proofs.calls.bind_each.Given as goal

abbrev pub invariant-loop-left : goal.invariant-loop-left
invariant-loop-left l =
    IsBinding (map (λ par. par.0) l.pars) l.count l.fn.evaluator.values l.fn.evaluator.scopes l.left l.evaluator.values
    l.evaluator.scopes l.place
    × (l.evaluator.todo ≡ l.fn.evaluator.todo) × (l.evaluator.lists ≡ l.fn.evaluator.lists)
    × (l.evaluator.around ≡ l.fn.evaluator.around)

abbrev pub decreases-loop-left : goal.decreases-loop-left
decreases-loop-left l = l.left
