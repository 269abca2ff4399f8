-- What is left leads to the whole evaluation.
use Rattle.std.proofs.Common.{◌≡◌, ◌+◌, ◌-◌, ◌*◌, ◌≤◌}
use Rattle.nomos_ir.specs.Evaluation.{max_nodes}
use Rattle.nomos_eval.specs.mirror.Evaluator.{left, IsSound}
use Rattle.nomos_eval.specs.mirror.Rest.{work}
use Rattle.nomos_eval.proofs.evaluating.run.Given as goal

abbrev pub invariant-loop-act : goal.invariant-loop-act
invariant-loop-act l =
    IsSound l.evaluator × (left l.lists l.fn.evaluator 0 ≡ left l.lists l.evaluator l.entered) × (l.entered ≤ max_nodes)

abbrev pub decreases-loop-act : goal.decreases-loop-act
decreases-loop-act l = 3 * (max_nodes - l.entered) + work l.evaluator.todo
