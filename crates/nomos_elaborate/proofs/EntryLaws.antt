-- All that is made of a tree within the limits has numbers that fit their types.
use Rattle.std.proofs.Common.{◌≡◌, ◌+◌, ◌≤◌, List, [], ◌∷◌, length, sym, subst, arith}
use Rattle.nomos_elaborate.proofs.NameTables.{seen-grows}
use Rattle.nomos_elaborate.proofs.StopLaws.{found_same}
use Rattle.nomos_elaborate.specs.Spaces.{declaring, declaring_all, no_names}
use Rattle.nomos_elaborate.specs.declared.spaces.Spaces.{Spaces}
use Rattle.nomos_elaborate.specs.mirror.Checked.{found}
use Rattle.nomos_elaborate.specs.mirror.Entries.{MayMake, how_many_names}
use Rattle.nomos_elaborate.specs.mirror.FileCheck.{Progress, begun}
use Rattle.nomos_surface.specs.TreeBounds.{IsWithinLimits}
use Rattle.nomos_surface.specs.Counts.{in_decl, in_each, in_type}
use Rattle.nomos_surface.specs.declared.surface.CostModel.{CostModel}
use Rattle.nomos_surface.specs.Tree.{TypeTree, one, named, choice, channel, valued, paying, going_up, going_down, grouped, DeclTree, definition, function, process, transaction, FileTree}
use Rattle.nomos_syntax.specs.TextLimits.{node_limit}

-- a type counts
pub type_counts : (t : TypeTree) → 1 ≤ (in_type t).nodes
unfolding in_type
type_counts (one at) = omega arith
type_counts (named n) = omega arith
type_counts (choice sender at parts) = omega arith
type_counts (channel sender at carried goes) = omega arith
type_counts (valued sender at value goes) = omega arith
type_counts (paying sender at potential goes) = omega arith
type_counts (going_up at goes) = omega arith
type_counts (going_down at goes) = omega arith
type_counts (grouped inner) = type_counts inner

-- each declaration adds one name at most
one-name : (s : Spaces) (d : DeclTree) → how_many_names (declaring s d) ≤ how_many_names s + 1
one-name s (definition at mode n body) = let e = seen-grows s.types n.name in omega arith
one-name s (function at n pars gives body) = let e = seen-grows s.functions n.name in omega arith
one-name s (process at mode n pars potential offers body) = let e = seen-grows s.processes n.name in omega arith
one-name s (transaction at n pars potential body) = let e = seen-grows s.processes n.name in omega arith

names-few : (s : Spaces) (decls : List DeclTree)
    → how_many_names (declaring_all s decls) ≤ how_many_names s + length decls
names-few s [] = omega arith
names-few s (d ∷ decls) =
    let rest = names-few (declaring s d) decls in
    let first = one-name s d in
    omega arith

-- and counts
decl-counts : (d : DeclTree) → 1 ≤ (in_decl d).nodes
decl-counts (definition at mode n body) = omega arith
decl-counts (function at n pars gives body) = omega arith
decl-counts (process at mode n pars potential offers body) = omega arith
decl-counts (transaction at n pars potential body) = omega arith

decls-count : (decls : List DeclTree) → length decls ≤ (in_each in_decl decls).nodes
decls-count [] = omega arith
decls-count (d ∷ decls) =
    let rest = decls-count decls in
    let first = decl-counts d in
    omega arith

-- where the walk begins, all declarations of a tree within the limits may be made
pub decls-may_be_made : (tree : FileTree) (decls : List DeclTree) (spaces : Spaces) (model : CostModel) (v : Progress)
    → IsWithinLimits tree → decls ≡ tree.decls → found (declaring_all no_names decls) ≡ found spaces
    → v ≡ begun spaces model
    → MayMake v.work (in_each in_decl decls)
decls-may_be_made tree decls spaces model v limits same names begin =
    let nodes : (in_each in_decl decls).nodes ≤ node_limit = rw same limits.nodes in
    let stars = rw (sym same) at limits.stars in
    let few = names-few no_names decls in
    let counted = decls-count decls in
    let here : MayMake (begun (declaring_all no_names decls) model).work (in_each in_decl decls) = omega arith in
    subst (λ (u : Progress). MayMake u.work (in_each in_decl decls)) (sym begin)
    (subst (λ (a : Spaces). MayMake (begun a model).work (in_each in_decl decls)) (found_same names) here)
