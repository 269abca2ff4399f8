-- What a program's invariant says of one node.
use Rattle.std.proofs.Common.{◌≡◌, ◌<◌, ℕ, List, [], ◌∷◌, length, zero, suc, Some, slice_get, subst, ap, refl, arith}
use Rattle.std.specs.Option.{option_map}
use Rattle.nomos_ir.proofs.NodeLaws.{All-at, type_node-at}
use Rattle.nomos_ir.specs.declared.ids.DefId.{DefId}
use Rattle.nomos_ir.specs.declared.lists.ProgramLists.{ProgramLists}
use Rattle.nomos_ir.specs.declared.type_node.Def.{Def}
use Rattle.nomos_ir.specs.declared.type_node.TypeAt.{TypeAt}
use Rattle.nomos_ir.specs.declared.type_node.TypeNode.{TypeNode}
use Rattle.nomos_ir.specs.declared.type_node.TypeNode.TheVariants as node
use Rattle.nomos_ir.specs.Ids.{TypeInRange}
use Rattle.nomos_ir.specs.Nodes.{type_node}
use Rattle.nomos_ir.specs.Program.{IsProgram}
use Rattle.nomos_ir.specs.Unfold.{IsConstructor, IsContractive, constructor, name}
use Rattle.nomos_types.specs.Unfolding.{IsUnfolding}

-- the ids in a type node are in range
pub type_node-in_range : (lists : ProgramLists) (t : ℕ) (n : TypeNode) → IsProgram lists → type_node lists t ≡ Some n
    → TypeInRange lists n
type_node-in_range lists t n is_program found =
    let at = type_node-at lists t n found in
    let P : TypeAt → Type 0 = λ a. TypeInRange lists a.node in
    let Q : TypeNode → Type 0 = λ m. TypeInRange lists m in
    subst Q at.2 (All-at P lists.types t at.0 is_program.ids.types at.1)

-- a named definition is there
pub named-below : (lists : ProgramLists) (t : ℕ) (id : DefId) → IsProgram lists
    → type_node lists t ≡ Some (node.Named id) → id.0 < length lists.defs
named-below lists t id is_program found =
    (type_node-in_range lists t (node.Named id) is_program found).names 0 0 (omega arith)

-- the body of a definition is a type node
pub body-below : (lists : ProgramLists) (d : ℕ) (def : Def) → IsProgram lists → slice_get lists.defs d ≡ Some def
    → def.body.0 < length lists.types
body-below lists d def is_program found =
    let P : Def → Type 0 = λ x. x.body.0 < length lists.types in
    All-at P lists.defs d def is_program.ids.defs found

-- a list has an element at each place
pub element-there : {X : Type 0} (xs : List X) (i : ℕ) → i < length xs → (x : X) × (slice_get xs i ≡ Some x)
element-there [] i h = absurd (omega arith)
element-there (x ∷ xs) zero h = (x, refl)
element-there (x ∷ xs) (suc i) h = element-there xs i (omega arith)

-- a number in range has a type node
pub type_node-there : (lists : ProgramLists) (t : ℕ) → t < length lists.types
    → (n : TypeNode) × (type_node lists t ≡ Some n)
type_node-there lists t h =
    let at = element-there lists.types t h in
    (at.0.node, ap (option_map (λ a. a.node)) at.1)

-- in a contractive program a name unfolds to the body of its definition
pub named-unfolds : (lists : ProgramLists) (t : ℕ) (id : DefId) (def : Def) → IsProgram lists → IsContractive lists
    → type_node lists t ≡ Some (node.Named id) → slice_get lists.defs id.0 ≡ Some def → IsUnfolding lists t def.body.0
named-unfolds lists t id def is_program contractive found body =
    let there = type_node-there lists def.body.0 (body-below lists id.0 def is_program body) in
    let P : Def → Type 0 = λ d. (n : TypeNode) → type_node lists d.body.0 ≡ Some n → IsConstructor n in
    let no_name : IsConstructor there.0 = All-at P lists.defs id.0 def contractive body there.0 there.1 in
    record {
      node = there.0;
      there = there.1;
      no_name = no_name;
      unfolds = name t id def there.0 found body (constructor def.body.0 there.0 there.1 no_name);
    }

-- a constructor unfolds to itself
pub constructor-unfolds : (lists : ProgramLists) (t : ℕ) (n : TypeNode) → type_node lists t ≡ Some n → IsConstructor n
    → IsUnfolding lists t t
constructor-unfolds lists t n there no_name =
    record { node = n; there = there; no_name = no_name; unfolds = constructor t n there no_name }

-- a node that is no name is a constructor
pub not_named-constructor : (n : TypeNode) → ((id : DefId) → n ≡ node.Named id → ⊥) → IsConstructor n
not_named-constructor (node.Named id) h = h id refl
not_named-constructor node.One h = tt
not_named-constructor (node.Plus bs) h = tt
not_named-constructor (node.With bs) h = tt
not_named-constructor (node.Tensor a b) h = tt
not_named-constructor (node.Lolli a b) h = tt
not_named-constructor (node.ValueOut k a) h = tt
not_named-constructor (node.ValueIn k a) h = tt
not_named-constructor (node.PotOut q a) h = tt
not_named-constructor (node.PotIn q a) h = tt
not_named-constructor (node.Up a) h = tt
not_named-constructor (node.Down a) h = tt
