-- The first values are given out.
use Rattle.std.proofs.Common.{◌≡◌, ◌≤◌, ◌<◌, map, length, get_or}
use Rattle.nomos_ir.specs.Value.{no_values}
use Rattle.nomos_ir.specs.ValueNode.{value_of}
use Rattle.nomos_eval.specs.mirror.Load.{before_list}
use Rattle.nomos_eval.specs.mirror.EvalTable.{reach}
use Rattle.nomos_eval.proofs.values.+unload.Given as goal

abbrev pub decreases-unload : goal.decreases-unload
decreases-unload l = reach l.of

abbrev pub invariant-loop-alloc : goal.invariant-loop-alloc
invariant-loop-alloc l =
    (l.at ≤ l.place) × (l.at < length l.lists)
    × (before_list (map value_of l.heads.items) (get_or l.lists l.at no_values) ≡ get_or l.lists l.place no_values)

abbrev pub decreases-loop-alloc : goal.decreases-loop-alloc
decreases-loop-alloc l = l.at
