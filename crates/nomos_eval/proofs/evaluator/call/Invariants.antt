-- The arguments behind are planned.
use Rattle.std.proofs.Common.{◌≡◌, ◌≤◌, ◌++◌, drop, length}
use Rattle.nomos_eval.specs.mirror.Rest.{argument_acts}
use Rattle.nomos_eval.proofs.evaluator.call.Given as goal

abbrev pub invariant-loop-left : goal.invariant-loop-left
invariant-loop-left l =
    (l.left ≤ length l.values) × (l.todo ≡ argument_acts l.scope (drop l.left l.values) ++ l.initial.todo)

abbrev pub decreases-loop-left : goal.decreases-loop-left
decreases-loop-left l = l.left
