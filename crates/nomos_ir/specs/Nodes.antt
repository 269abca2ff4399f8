-- The nodes of a program by their numbers.
use Rattle.std.specs.Prelude.{ℕ, Option, slice_get}
use Rattle.std.specs.Option.{option_map}
use Rattle.nomos_ir.specs.declared.type_node.TypeNode.{TypeNode}
use Rattle.nomos_ir.specs.declared.lists.ProgramLists.{ProgramLists}

-- the type node with this number, without its offset
abbrev pub type_node : ProgramLists → ℕ → Option TypeNode
type_node lists t = option_map (λ at. at.node) (slice_get lists.types t)
