-- The place of what a type unfolds to.
use Rattle.std.specs.Prelude.{◌≡◌, ℕ, Some}
use Rattle.nomos_ir.specs.declared.lists.ProgramLists.{ProgramLists}
use Rattle.nomos_ir.specs.declared.type_node.TypeNode.{TypeNode}
use Rattle.nomos_ir.specs.Nodes.{type_node}
use Rattle.nomos_ir.specs.Unfold.{IsConstructor, Unfolds}

-- at u stands the constructor to which the type t unfolds
pub record IsUnfolding (lists : ProgramLists) (t u : ℕ) : Type 0 where
  pub node : TypeNode
  pub there : type_node lists u ≡ Some node
  pub no_name : IsConstructor node
  pub unfolds : Unfolds lists t node
