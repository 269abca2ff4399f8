use Rattle.std.proofs.Common.{◌≡◌, take}
use Rattle.nomos_simplex.specs.GoalLine.{combined}
use Rattle.nomos_simplex.proofs.goal_line.combine.Given as goal

abbrev pub invariant-loop-i : goal.invariant-loop-i
invariant-loop-i l = l.sums.items ≡ combined l.factors.0 l.factors.1 (take l.i l.of) (take l.i l.by)
