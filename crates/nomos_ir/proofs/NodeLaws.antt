-- What a program's invariant says of one node.
use Rattle.std.proofs.Common.{◌≡◌, ℕ, List, subst, Option, Some, None, All, slice_get, refl}
use Rattle.std.proofs.lemmas.Option.{get_or_from_slice_get, slice_get_within}
use Rattle.nomos_ir.specs.declared.type_node.TypeAt.{TypeAt}
use Rattle.nomos_ir.specs.declared.type_node.TypeNode.{TypeNode}
use Rattle.nomos_ir.specs.declared.lists.ProgramLists.{ProgramLists}
use Rattle.std.specs.Option.{option_map}
use Rattle.nomos_ir.specs.Nodes.{type_node}

-- what holds of each element holds of the one at a place
pub All-at : {X : Type 0} (P : X → Type 0) (xs : List X) (k : ℕ) (x : X) → All P xs → slice_get xs k ≡ Some x → P x
All-at P xs k x all found =
    subst P (get_or_from_slice_get xs k x x found) (all k x (slice_get_within xs k x found))

-- a value that a map gives comes from some value
from_mapped : {X Y : Type 0} (f : X → Y) (o : Option X) (y : Y) → option_map f o ≡ Some y
    → (x : X) × (o ≡ Some x) × (f x ≡ y)
from_mapped f (Some x) y found = (x, refl, cc)
from_mapped f None y found = cc

-- a type node stands beside its offset
pub type_node-at : (lists : ProgramLists) (t : ℕ) (node : TypeNode) → type_node lists t ≡ Some node
    → (at : TypeAt) × (slice_get lists.types t ≡ Some at) × (at.node ≡ node)
type_node-at lists t node found = from_mapped (λ at. at.node) (slice_get lists.types t) node found
