-- The arguments behind are planned.
use Rattle.std.proofs.Common.{◌≡◌, ◌≤◌, ◌++◌, drop, length}
use Rattle.nomos_terms.specs.mirror.Left.{argument_tasks}
use Rattle.nomos_terms.proofs.enter.arguments.Given as goal

abbrev pub invariant-loop-left : goal.invariant-loop-left
invariant-loop-left l =
    (l.left ≤ length l.values) × (l.todo ≡ argument_tasks (drop l.left l.values) (drop l.left l.pars) ++ l.initial.todo)

abbrev pub decreases-loop-left : goal.decreases-loop-left
decreases-loop-left l = l.left
