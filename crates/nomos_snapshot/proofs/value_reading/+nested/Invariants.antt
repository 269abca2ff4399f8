-- Lists stand in one another as deep as was said; in a list what was taken and what is left are the text.
use Rattle.std.proofs.Common.{◌+◌, ◌*◌, length, map}
use Rattle.nomos_ir.specs.ValueNode.{value_of}
use Rattle.nomos_snapshot.proofs.RowLemmas.{ReadItems}
use Rattle.nomos_snapshot.proofs.value_reading.+nested.Given as goal

abbrev pub decreases-take_items : goal.decreases-take_items
decreases-take_items l = 2 * l.depth + 1

abbrev pub decreases-take_value : goal.decreases-take_value
decreases-take_value l = 2 * l.depth

abbrev pub invariant-take_items-loop-nodes : goal.invariant-take_items-loop-nodes
invariant-take_items-loop-nodes l = ReadItems l.depth l.text l.left (map value_of l.nodes.items)

abbrev pub decreases-take_items-loop-nodes : goal.decreases-take_items-loop-nodes
decreases-take_items-loop-nodes l = length l.left
