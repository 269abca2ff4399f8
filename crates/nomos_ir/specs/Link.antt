-- The list that a link leads to.
use Rattle.std.specs.Prelude.{◌≡◌, ◌+◌, List, [], ◌∷◌, length}
use Rattle.nomos_ir.specs.declared.value_node.Link.{Link}
use Rattle.nomos_ir.specs.declared.value_node.Link.TheVariants as link
use Rattle.nomos_ir.specs.Value.{Value}
use Rattle.nomos_ir.specs.ValueNode.{value_of}
use Rattle.nomos_ir.specs.Row.{capped_weight}

-- the list
abbrev pub list_of : Link → List Value
list_of link.Empty = []
list_of (link.More cell) = value_of cell.value.head ∷ cell.value.tail

-- the length and the weight that a cell notes are those of its list
abbrev pub IsWeighed : Link → Type 0
IsWeighed link.Empty = Unit {0}
IsWeighed (link.More cell) = (cell.value.length ≡ length cell.value.tail + 1)
    × (cell.value.weight ≡ capped_weight (value_of cell.value.head ∷ cell.value.tail))
