-- Synchronizing goes along: with the continuations of a talk, to types that are equal, and through names.
use Rattle.std.proofs.Common.{◌≡◌, ℕ, Contains, Some, subst}
use Rattle.std.proofs.lemmas.Option.{slice_get_within}
use Rattle.nomos_ir.proofs.NodeLaws.{type_node-at}
use Rattle.nomos_ir.proofs.UnfoldLaws.{Unfolds-unique}
use Rattle.nomos_ir.specs.Nodes.{type_node}
use Rattle.nomos_ir.specs.Unfold.{Unfolds, constructor, name}
use Rattle.nomos_ir.specs.declared.ids.TypeId.{TypeId}
use Rattle.nomos_ir.specs.declared.lists.ProgramLists.{ProgramLists}
use Rattle.nomos_ir.specs.declared.type_node.TypeNode.{TypeNode}
use Rattle.nomos_ir.specs.declared.type_node.TypeNode.TheVariants as node
use Rattle.nomos_types.proofs.EqualityLaws.{equal-same, equal-unfolded, equal-from_unfolded, equal-through}
use Rattle.nomos_types.specs.Amount.{Annotations}
use Rattle.nomos_types.specs.Equality.{EqualTypes, SameHead, one, with, up, down}
use Rattle.nomos_types.specs.Synchronizing.{continuations, Reaches, here, further, IsSynchronizingAt, IsSynchronizing}
use Rattle.nomos_types.specs.Typed.{IsWellFormed}

-- ---- along a talk

-- what a continuation reaches is reached
pub reaches-behind : {lists : ProgramLists} {t u v : TypeId} → (n : TypeNode) → Unfolds lists t.0 n
    → Contains (continuations n) u → Reaches lists u v → Reaches lists t v
reaches-behind n unfolds among here = further n here unfolds among
reaches-behind n unfolds among (further m reached unfolds_too inside) =
    further m (reaches-behind n unfolds among reached) unfolds_too inside

-- a continuation of a synchronizing type is synchronizing
pub synchronizing-continues : {lists : ProgramLists} {t u s : TypeId} → (x : Annotations) (n : TypeNode)
    → IsSynchronizingAt lists x t s → Unfolds lists t.0 n → Contains (continuations n) u
    → IsSynchronizingAt lists x u s
synchronizing-continues x n is unfolds among =
    λ at b reached down. is at b (reaches-behind n unfolds among reached) down

-- behind the end of a critical section of a synchronizing type stands what it goes back to
pub synchronizing-down : {lists : ProgramLists} {t b s : TypeId} → (x : Annotations) → IsSynchronizingAt lists x t s
    → Unfolds lists t.0 (node.Down b) → EqualTypes lists x b s
synchronizing-down {t = t} {b = b} x is unfolds = is t b here unfolds

-- ---- at types that are equal

-- what is synchronizing at a type is so at each that is equal
pub synchronizing-at_equal : {lists : ProgramLists} {t s r : TypeId} → (x : Annotations)
    → IsSynchronizingAt lists x t s → EqualTypes lists x s r → IsSynchronizingAt lists x t r
synchronizing-at_equal {lists} {t} {s} {r} x is equal =
    λ at b reached down. equal-through lists x b s r (is at b reached down) equal

-- ---- through names

-- what a type unfolds to stands at a type
stands-at : {lists : ProgramLists} {t : ℕ} {n : TypeNode} → Unfolds lists t n
    → (u : TypeId) × (type_node lists u.0 ≡ Some n) × Unfolds lists u.0 n
stands-at (constructor t n there no_name) =
    let id : TypeId = record { 0 = t } in
    (id, there, constructor t n there no_name)
stands-at (name _ _ _ _ _ _ unfolds) = stands-at unfolds

-- where each `up` of a program is synchronizing, one that stands behind a name is so at the name
pub synchronizing-unfolded : {lists : ProgramLists} {x : Annotations} {t a : TypeId} → IsWellFormed lists
    → IsSynchronizing lists x → Unfolds lists t.0 (node.Up a) → IsSynchronizingAt lists x a t
synchronizing-unfolded {lists} {x} {t} {a} formed synchronizing unfolds =
    let (u, there, own) = stands-at unfolds in
    let at = type_node-at lists u.0 (node.Up a) there in
    let inside = slice_get_within lists.types u.0 at.0 at.1 in
    let itself = equal-same lists x u formed.program formed.contractive inside in
    let (q, own_too, head) = equal-unfolded lists x u u (node.Up a) itself own in
    let is : q ≡ node.Up a = Unfolds-unique lists u.0 q (node.Up a) own_too own in
    let same = subst (λ (n : TypeNode). SameHead x (EqualTypes lists x) (node.Up a) n) is head in
    synchronizing-at_equal x (synchronizing u a there)
    (equal-from_unfolded lists x u t (node.Up a) (node.Up a) own unfolds same)
