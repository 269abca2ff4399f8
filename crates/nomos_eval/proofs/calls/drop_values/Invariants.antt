-- What is left to take away leads to the same.
use Rattle.std.proofs.Common.{◌≡◌}
use Rattle.nomos_eval.specs.mirror.Evaluator.{below_at}
use Rattle.nomos_eval.proofs.calls.drop_values.Given as goal

abbrev pub invariant-loop-left : goal.invariant-loop-left
invariant-loop-left l = below_at l.left l.values ≡ below_at l.count l.initial.values

abbrev pub decreases-loop-left : goal.decreases-loop-left
decreases-loop-left l = l.left
