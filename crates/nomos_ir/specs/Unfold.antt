-- Types behind their names.
use Rattle.std.specs.Prelude.{◌≡◌, ℕ, All, Option, Some, None, slice_get}
use Rattle.nomos_ir.specs.declared.ids.DefId.{DefId}
use Rattle.nomos_ir.specs.declared.type_node.TypeNode.{TypeNode}
use Rattle.nomos_ir.specs.declared.type_node.TypeNode.TheVariants as form
use Rattle.nomos_ir.specs.declared.type_node.Def.{Def}
use Rattle.nomos_ir.specs.declared.lists.ProgramLists.{ProgramLists}
use Rattle.nomos_ir.specs.Nodes.{type_node}

-- a type node that is no name
abbrev pub IsConstructor : TypeNode → Type 0
IsConstructor (form.Named def) = ⊥
IsConstructor _ = Unit {0}

-- what a type is when the names at its head are replaced by the bodies of their definitions
pub data Unfolds (lists : ProgramLists) : ℕ → TypeNode → Type 0 where
  -- a constructor is itself
  constructor : (t : ℕ) (node : TypeNode) → type_node lists t ≡ Some node → IsConstructor node → Unfolds lists t node
  -- a name is what the body of its definition is
  name : (t : ℕ) (id : DefId) (def : Def) (node : TypeNode) → type_node lists t ≡ Some (form.Named id)
      → slice_get lists.defs id.0 ≡ Some def → Unfolds lists def.body.0 node → Unfolds lists t node

-- the body of each definition is a constructor
abbrev pub IsContractive : ProgramLists → Type 0
IsContractive lists =
    All (λ def. (node : TypeNode) → type_node lists def.body.0 ≡ Some node → IsConstructor node) lists.defs

-- the node at the head of a definition's body
abbrev pub body_node : ProgramLists → Option Def → Option TypeNode
body_node lists (Some def) = type_node lists def.body.0
body_node lists None = None

-- a node, or for a name the node at the head of its definition's body
abbrev pub behind_name : ProgramLists → Option TypeNode → Option TypeNode
behind_name lists (Some (form.Named id)) = body_node lists (slice_get lists.defs id.0)
behind_name lists n = n

-- what a type is, found in one step: where no definition is a bare name, this is what it unfolds to
abbrev pub unfolded : ProgramLists → ℕ → Option TypeNode
unfolded lists t = behind_name lists (type_node lists t)
