-- The values that are left stand before those that were made.
use Rattle.std.proofs.Common.{◌≡◌, ◌++◌, length, map}
use Rattle.nomos_ir.specs.ValueNode.{value_of}
use Rattle.nomos_eval.proofs.values.values_before.Given as goal

abbrev pub decreases-loop-node : goal.decreases-loop-node
decreases-loop-node l = length l.left.items

abbrev pub invariant-loop-node : goal.invariant-loop-node
invariant-loop-node l =
    map value_of l.left.items ++ l.made ≡ map value_of l.initial.left.items ++ l.initial.made
