-- The acts behind are put on the top.
use Rattle.std.proofs.Common.{◌≡◌, ◌≤◌, ◌++◌, drop, length}
use Rattle.nomos_eval.proofs.evaluator.plan.Given as goal

abbrev pub invariant-loop-left : goal.invariant-loop-left
invariant-loop-left l = (l.left ≤ length l.acts) × (l.todo ≡ drop l.left l.acts ++ l.initial.todo)

abbrev pub decreases-loop-left : goal.decreases-loop-left
decreases-loop-left l = l.left
