-- When a shared type is synchronizing: every end of a critical section leads back to where it began.
use Rattle.std.specs.Prelude.{◌≡◌, List, [], ◌∷◌, map, Contains, Some}
use Rattle.nomos_ir.specs.declared.ids.TypeId.{TypeId}
use Rattle.nomos_ir.specs.declared.lists.ProgramLists.{ProgramLists}
use Rattle.nomos_ir.specs.declared.type_node.TypeNode.{TypeNode}
use Rattle.nomos_ir.specs.declared.type_node.TypeNode.TheVariants as node
use Rattle.nomos_ir.specs.Nodes.{type_node}
use Rattle.nomos_ir.specs.Unfold.{Unfolds}
use Rattle.nomos_types.specs.Amount.{Annotations}
use Rattle.nomos_types.specs.Equality.{EqualTypes}

-- the types with which a talk of this type goes on: what is carried is none of them, and behind an `up` or a
-- `down` there is none
abbrev pub continuations : TypeNode → List TypeId
continuations (node.Plus branches) = map (λ b. b.goes) branches
continuations (node.With branches) = map (λ b. b.goes) branches
continuations (node.Tensor a b) = b ∷ []
continuations (node.Lolli a b) = b ∷ []
continuations (node.ValueOut kind a) = a ∷ []
continuations (node.ValueIn kind a) = a ∷ []
continuations (node.PotOut amount a) = a ∷ []
continuations (node.PotIn amount a) = a ∷ []
continuations _ = []

-- a path of continuations leads from the first type to the second; it crosses no `up` and no `down`
pub data Reaches (lists : ProgramLists) (from : TypeId) : TypeId → Type 0 where
  here : Reaches lists from from
  further : {t u : TypeId} → (node : TypeNode) → Reaches lists from t → Unfolds lists t.0 node
      → Contains (continuations node) u → Reaches lists from u

-- every `down` at the end of a path from the first type goes back to the second
abbrev pub IsSynchronizingAt : ProgramLists → Annotations → TypeId → TypeId → Type 0
IsSynchronizingAt lists x from shared =
    (t b : TypeId) → Reaches lists from t → Unfolds lists t.0 (node.Down b) → EqualTypes lists x b shared

-- each `up` of the program is synchronizing
abbrev pub IsSynchronizing : ProgramLists → Annotations → Type 0
IsSynchronizing lists x = (t a : TypeId) → type_node lists t.0 ≡ Some (node.Up a) → IsSynchronizingAt lists x a t
