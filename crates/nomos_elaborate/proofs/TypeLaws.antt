-- What the code makes of a type, and where it ends early, is what the definitions say.
use Rattle.std.proofs.Common.{◌≡◌, List, [], ◌∷◌, refl}
use Rattle.nomos_elaborate.proofs.CheckedLaws.{demand-then, law-then, law-last}
use Rattle.nomos_elaborate.specs.Built.{amount_of}
use Rattle.nomos_elaborate.specs.NameClaim.{NameClaim, declared, new_among}
use Rattle.nomos_elaborate.specs.Names.{Names, seen}
use Rattle.nomos_elaborate.specs.TypeBuild.{build_type, build_branches}
use Rattle.nomos_elaborate.specs.TypeClaims.{type_claims, branch_claims}
use Rattle.nomos_elaborate.specs.declared.elaborator.Elaborator.{Elaborator}
use Rattle.nomos_elaborate.specs.mirror.Agrees.{where_all_hold}
use Rattle.nomos_elaborate.specs.mirror.Checked.{Checked}
use Rattle.nomos_elaborate.specs.mirror.TypeCheck.{Labelled, check_branch, check_branches, check_type, the_branch}
use Rattle.nomos_elaborate.specs.mirror.Work.{made, label_seen}
use Rattle.nomos_ir.specs.declared.ids.TypeId.{TypeId}
use Rattle.nomos_ir.specs.declared.type_node.Branch.{Branch}
use Rattle.nomos_surface.specs.declared.name_at.NameAt.{NameAt}
use Rattle.nomos_surface.specs.Tree.{TypeTree, one, named, choice, channel, valued, paying, going_up, going_down, grouped, BranchTrees, no_branches, branch}

abbrev type_built : Elaborator → TypeTree → Elaborator × TypeId
type_built w t = made w (build_type w.spaces.types w.built t)

abbrev labels_behind : Names → BranchTrees → Names
labels_behind before no_branches = before
labels_behind before (branch l goes branches) = labels_behind (seen before l.name) branches

abbrev branches_built : Labelled → BranchTrees → Labelled × List Branch
branches_built v bs =
    let b = build_branches v.0.spaces.types v.0.built bs in
    ((record v.0 { built = b.0 }, labels_behind v.1 bs), b.1)

-- a branch whose type gives what it is to give
branch_law : (goes : Elaborator → Checked (Elaborator × TypeId)) (v : Labelled) (l : NameAt) (claims : List NameClaim)
    (b : Elaborator × TypeId)
    → goes (made v.0 (label_seen v.0.built l)).0 ≡ where_all_hold claims b
    → check_branch goes v l ≡ where_all_hold (new_among v.1 l ∷ claims)
    (the_branch b (seen v.1 l.name) (label_seen v.0.built l).1)
branch_law goes v l claims b e = demand-then (new_among v.1 l) claims _ _ (λ h. law-last b _ _ _ claims e refl)

mutual
  unfolding check_type check_branches type_claims branch_claims build_type build_branches

  pub type_law : (w : Elaborator) (t : TypeTree)
      → check_type w t ≡ where_all_hold (type_claims w.spaces.types t) (made w (build_type w.spaces.types w.built t))
  type_law w (one at) = refl
  type_law w (named n) =
      law-last _ _ _ _ (declared w.spaces.types n ∷ []) (demand-then (declared w.spaces.types n) [] _ _ (λ h. refl))
      refl
  type_law w (choice sender at branches) =
      let c = branch_claims w.spaces.types [] branches in
      law-last ((branches_built (w, []) branches).0.0, (branches_built (w, []) branches).1) _ _ _ c
      (law-last (branches_built (w, []) branches) _ _ _ c (branches_law (w, []) branches) refl) refl
  type_law w (channel sender at carried goes) =
      let v = (type_built w carried).0 in
      law-then (type_built w carried) _ (type_claims w.spaces.types goes) _ _ (type_claims w.spaces.types carried)
      (type_law w carried)
      (law-last (type_built v goes) _ _ _ (type_claims w.spaces.types goes) (type_law v goes) refl)
  type_law w (valued sender at value goes) =
      law-last (type_built w goes) _ _ _ (type_claims w.spaces.types goes) (type_law w goes) refl
  type_law w (paying sender at potential goes) =
      let v = (made w (amount_of w.built potential)).0 in
      law-last (type_built v goes) _ _ _ (type_claims w.spaces.types goes) (type_law v goes) refl
  type_law w (going_up at goes) =
      law-last (type_built w goes) _ _ _ (type_claims w.spaces.types goes) (type_law w goes) refl
  type_law w (going_down at goes) =
      law-last (type_built w goes) _ _ _ (type_claims w.spaces.types goes) (type_law w goes) refl
  type_law w (grouped inner) = type_law w inner

  branches_law : (v : Labelled) (bs : BranchTrees)
      → check_branches v bs ≡ where_all_hold (branch_claims v.0.spaces.types v.1 bs) (branches_built v bs)
  branches_law v no_branches = refl
  branches_law v (branch l goes branches) =
      let types = v.0.spaces.types in
      let u = (made v.0 (label_seen v.0.built l)).0 in
      let b = type_built u goes in
      let next : Labelled = (b.0, seen v.1 l.name) in
      law-then (the_branch b (seen v.1 l.name) (label_seen v.0.built l).1) _
      (branch_claims types (seen v.1 l.name) branches) _ _ (new_among v.1 l ∷ type_claims types goes)
      (branch_law (λ w. check_type w goes) v l (type_claims types goes) b (type_law u goes))
      (law-last (branches_built next branches) _ _ _ (branch_claims types (seen v.1 l.name) branches)
      (branches_law next branches) refl)
