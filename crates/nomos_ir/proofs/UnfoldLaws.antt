-- Laws of unfolding.
use Rattle.std.proofs.Common.{◌≡◌, ℕ, subst, ap, ◌∙◌, Some, None, Option, slice_get, refl}
use Rattle.nomos_ir.specs.declared.ids.DefId.{DefId}
use Rattle.nomos_ir.specs.declared.type_node.TypeNode.{TypeNode}
use Rattle.nomos_ir.specs.declared.type_node.TypeNode.TheVariants as form
use Rattle.nomos_ir.specs.declared.type_node.Def.{Def}
use Rattle.nomos_ir.specs.declared.lists.ProgramLists.{ProgramLists}
use Rattle.nomos_ir.specs.Unfold.{IsConstructor, IsContractive, Unfolds, constructor, name, unfolded, behind_name, body_node}
use Rattle.nomos_ir.specs.Nodes.{type_node}
use Rattle.nomos_ir.proofs.NodeLaws.{All-at}

-- a constructor is no name
pub constructor-not_named : (node : TypeNode) (id : DefId) → IsConstructor node → node ≡ form.Named id → ⊥
constructor-not_named node id is_constructor named = subst IsConstructor named is_constructor

-- a type unfolds to one node only
pub Unfolds-unique : (lists : ProgramLists) (t : ℕ) (m n : TypeNode) → Unfolds lists t m → Unfolds lists t n → m ≡ n
Unfolds-unique lists t m n (constructor _ _ m_there _) (constructor _ _ n_there _) = cc
Unfolds-unique lists t m n (constructor _ _ m_there no_name) (name _ id def _ there body rest) =
    absurd (constructor-not_named m id no_name cc)
Unfolds-unique lists t m n (name _ id def _ there body rest) (constructor _ _ n_there no_name) =
    absurd (constructor-not_named n id no_name cc)
Unfolds-unique lists t m n (name _ id def _ there body rest) (name _ id2 def2 _ there2 body2 rest2) =
    let same : def2 ≡ def = cc in
    let P : Def → Type 0 = λ d. Unfolds lists d.body.0 n in
    Unfolds-unique lists def.body.0 m n rest (subst P same rest2)

-- where no definition is a bare name, the head of a definition's body is a constructor
body-constructor : (lists : ProgramLists) (d : ℕ) (def : Def) (node : TypeNode) → IsContractive lists
    → slice_get lists.defs d ≡ Some def → type_node lists def.body.0 ≡ Some node → IsConstructor node
body-constructor lists d def node contractive found there =
    All-at (λ (e : Def). (n : TypeNode) → type_node lists e.body.0 ≡ Some n → IsConstructor n) lists.defs d def
    contractive found node there

-- the same, where the definition is looked up
body-unfolds : (lists : ProgramLists) (t : ℕ) (id : DefId) (node : TypeNode) (o : Option Def) → IsContractive lists
    → type_node lists t ≡ Some (form.Named id) → slice_get lists.defs id.0 ≡ o → body_node lists o ≡ Some node
    → Unfolds lists t node
body-unfolds lists t id node (Some def) contractive there found body =
    let constructs = body-constructor lists id.0 def node contractive found body in
    name t id def node there found (constructor def.body.0 node body constructs)
body-unfolds lists t id node None contractive there found body = absurd cc

-- the same, where the node is looked up
node-unfolds : (lists : ProgramLists) (t : ℕ) (node : TypeNode) (o : Option TypeNode) → IsContractive lists
    → type_node lists t ≡ o → behind_name lists o ≡ Some node → Unfolds lists t node
node-unfolds lists t node (Some (form.Named id)) contractive there behind =
    body-unfolds lists t id node (slice_get lists.defs id.0) contractive there refl behind
node-unfolds lists t node (Some n) contractive there behind =
    let same : n ≡ node = cc in
    let P : TypeNode → Type 0 = λ m. Unfolds lists t m in
    subst P same (constructor t n there tt)
node-unfolds lists t node None contractive there behind = absurd cc

-- what is found in one step is what the type unfolds to
pub unfolded-unfolds : (lists : ProgramLists) (t : ℕ) (node : TypeNode) → IsContractive lists
    → unfolded lists t ≡ Some node → Unfolds lists t node
unfolded-unfolds lists t node contractive found =
    node-unfolds lists t node (type_node lists t) contractive refl found

-- a constructor stands for itself
constructor-behind : (lists : ProgramLists) (n : TypeNode) → IsConstructor n → behind_name lists (Some n) ≡ Some n
constructor-behind lists (form.Named id) constructs = absurd constructs
constructor-behind lists n constructs = refl

-- a constructor is the node of its type
pub constructor-node : (lists : ProgramLists) (t : ℕ) (m n : TypeNode) → type_node lists t ≡ Some m → IsConstructor m
    → Unfolds lists t n → type_node lists t ≡ Some n
constructor-node lists t m n there constructs (constructor _ _ here _) = here
constructor-node lists t m n there constructs (name _ id def _ named _ _) =
    absurd (constructor-not_named m id constructs cc)

-- what the type unfolds to is found in one step
pub unfolds-unfolded : (lists : ProgramLists) (t : ℕ) (node : TypeNode) → IsContractive lists → Unfolds lists t node
    → unfolded lists t ≡ Some node
unfolds-unfolded lists t node contractive (constructor _ _ there constructs) =
    ap (behind_name lists) there ∙ constructor-behind lists node constructs
unfolds-unfolded lists t node contractive (name _ id def _ there found (constructor _ _ body constructs)) =
    ap (behind_name lists) there ∙ ap (body_node lists) found ∙ body
unfolds-unfolded lists t node contractive (name _ id def _ there found (name _ inner _ _ named _ _)) =
    absurd (body-constructor lists id.0 def (form.Named inner) contractive found named)
