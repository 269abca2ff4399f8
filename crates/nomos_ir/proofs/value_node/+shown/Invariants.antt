use Rattle.std.proofs.Common.{◌≤◌}
use Rattle.nomos_ir.specs.Row.{row_weight}
use Rattle.nomos_ir.proofs.value_node.+shown.Given as goal

abbrev pub invariant-ValuesDebug::fmt-loop-first : goal.invariant-ValuesDebug::fmt-loop-first
invariant-ValuesDebug::fmt-loop-first g l = row_weight l.left ≤ row_weight l.initial.left
