-- The amounts of the program of a tree are small where the tree is within the limits.
use Rattle.std.proofs.Common.{List, [], ◌∷◌, ◌++◌, All}
use Rattle.std.specs.List.{flat_map}
use Rattle.std.proofs.lemmas.List.Elements.{All-nil, All-append, All-head, All-tail}
use Rattle.nomos_elaborate.proofs.DeclMaking.{ProcKeeps, declared_in, tree-keeps}
use Rattle.nomos_elaborate.proofs.Making.{TypeKeeps, CodeKeeps}
use Rattle.nomos_elaborate.specs.FileBuild.{program_of}
use Rattle.nomos_ir.specs.Amounts.{IsAmount, AmountsAreSmall, proc_amounts}
use Rattle.nomos_ir.specs.CodeParts.{code_amounts}
use Rattle.nomos_ir.specs.TypeParts.{type_amounts}
use Rattle.nomos_ir.specs.declared.type_node.TypeAt.{TypeAt}
use Rattle.nomos_surface.specs.TreeBounds.{IsWithinLimits}
use Rattle.nomos_surface.specs.Tree.{FileTree}

-- what holds of all that each item gives holds of all that the list gives
all-given : {X Y : Type 0} (Q : X → Type 0) (P : Y → Type 0) (f : X → List Y) (xs : List X)
    → ((x : X) → Q x → All P (f x)) → All Q xs → All P (flat_map f xs)
all-given Q P f [] gives each = All-nil P
all-given Q P f (x ∷ xs) gives each =
    All-append P (f x) (flat_map f xs) (gives x (All-head Q x xs each))
    (all-given Q P f xs gives (All-tail Q x xs each))

pub amounts-small : (tree : FileTree) → IsWithinLimits tree → AmountsAreSmall (program_of tree)
amounts-small tree limits =
    let h = tree-keeps tree limits in
    let d = declared_in tree in
    let of_types = flat_map (λ (t : TypeAt). type_amounts t.node) d.built.types in
    let of_code = flat_map code_amounts d.built.code in
    All-append IsAmount (of_types ++ of_code) (flat_map proc_amounts d.procs)
    (All-append IsAmount of_types of_code
    (all-given (λ (t : TypeAt). TypeKeeps t.node) IsAmount (λ (t : TypeAt). type_amounts t.node) d.built.types
    (λ t k. k.amounts) h.built.types)
    (all-given CodeKeeps IsAmount code_amounts d.built.code (λ n k. k.amounts) h.built.code))
    (all-given ProcKeeps IsAmount proc_amounts d.procs (λ p k. k.amounts) h.procs)
