-- The branches of a choice, one after the other.
use Rattle.std.proofs.Common.{◌≡◌, List, [], ◌∷◌, map, refl, ap}
use Rattle.nomos_elaborate.proofs.Loops.{ahead}
use Rattle.nomos_elaborate.specs.mirror.Checked.{Checked, found, broken, ◌>>=◌}
use Rattle.nomos_elaborate.specs.mirror.Each.{each}
use Rattle.nomos_elaborate.specs.mirror.TypeCheck.{check_type, check_branch, check_branches, Labelled}
use Rattle.nomos_ir.specs.declared.type_node.Branch.{Branch}
use Rattle.nomos_surface.specs.TypeView.{branch_trees, Branch as Shown}

-- what branches give is what each gives
pub branches_are_each : {X : Type 0} (tree : X → Shown) (v : Labelled) (xs : List X)
    → check_branches v (branch_trees (map tree xs))
    ≡ each (λ v x. check_branch (λ w. check_type w (tree x).1) v (tree x).0) v xs
unfolding check_branches each
branches_are_each tree v [] = refl
branches_are_each tree v (x ∷ xs) =
    by (check_branch (λ w. check_type w (tree x).1) v (tree x).0) (λ v. branches_are_each tree v xs)
  where
    by : (c : Checked (Labelled × Branch))
        → ((v : Labelled) → check_branches v (branch_trees (map tree xs))
        ≡ each (λ v x. check_branch (λ w. check_type w (tree x).1) v (tree x).0) v xs)
        → (c >>= (λ a. check_branches a.0 (branch_trees (map tree xs)) >>= ahead a.1))
        ≡ (c >>= (λ a. each (λ v x. check_branch (λ w. check_type w (tree x).1) v (tree x).0) a.0 xs >>= ahead a.1))
    by (found a) ih = ap (λ d. d >>= ahead a.1) (ih a.0)
    by (broken at) ih = refl
