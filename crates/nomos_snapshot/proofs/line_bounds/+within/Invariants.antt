-- Lists stand in one another as deep as was said; what is left of a list is within exactly where the whole is.
use Rattle.std.proofs.Common.{◌+◌, ◌*◌, ◌↔◌, length}
use Rattle.nomos_ir.specs.Value.{value_list}
use Rattle.nomos_snapshot.specs.mirror.ValueReading.{AreWithin}
use Rattle.nomos_snapshot.proofs.line_bounds.+within.Given as goal

abbrev pub decreases-is_within : goal.decreases-is_within
decreases-is_within l = 2 * l.depth

abbrev pub decreases-are_within : goal.decreases-are_within
decreases-are_within l = 2 * l.depth + 1

abbrev pub invariant-are_within-loop-first : goal.invariant-are_within-loop-first
invariant-are_within-loop-first l =
    AreWithin l.depth (value_list l.items) ↔ AreWithin l.depth (value_list l.left)

abbrev pub decreases-are_within-loop-first : goal.decreases-are_within-loop-first
decreases-are_within-loop-first l = length l.left
