use Rattle.std.proofs.Common.{◌-◌, length}
use Rattle.nomos_equality.specs.mirror.Linking.{JoinInPlace}
use Rattle.nomos_equality.proofs.type_classes.fill_in_place.Given as goal

-- those that joined so far are in place
abbrev pub invariant-loop-above : goal.invariant-loop-above
invariant-loop-above l = JoinInPlace l.fn.above.items l.above.items

abbrev pub decreases-loop-above : goal.decreases-loop-above
decreases-loop-above l = l.count - length l.above.items
