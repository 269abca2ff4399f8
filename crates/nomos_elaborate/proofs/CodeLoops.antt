-- The branches of a `case`, one after the other.
use Rattle.std.proofs.Common.{◌≡◌, List, [], ◌∷◌, map, refl, ap}
use Rattle.nomos_elaborate.proofs.Loops.{ahead}
use Rattle.nomos_elaborate.specs.mirror.Checked.{Checked, found, broken, ◌>>=◌}
use Rattle.nomos_elaborate.specs.mirror.CodeCheck.{check_code, check_arm, check_arms}
use Rattle.nomos_elaborate.specs.mirror.Each.{each}
use Rattle.nomos_elaborate.specs.mirror.TypeCheck.{Labelled}
use Rattle.nomos_ir.specs.declared.code_node.Arm.{Arm}
use Rattle.nomos_surface.specs.CodeView.{arm_trees, Arm as Shown}

-- what branches give is what each gives
pub arms_are_each : {X : Type 0} (tree : X → Shown) (v : Labelled) (xs : List X)
    → check_arms v (arm_trees (map tree xs)) ≡ each (λ v x. check_arm (λ w. check_code w (tree x).1) v (tree x).0) v xs
unfolding check_arms each
arms_are_each tree v [] = refl
arms_are_each tree v (x ∷ xs) =
    by (check_arm (λ w. check_code w (tree x).1) v (tree x).0) (λ v. arms_are_each tree v xs)
  where
    by : (c : Checked (Labelled × Arm))
        → ((v : Labelled) → check_arms v (arm_trees (map tree xs))
        ≡ each (λ v x. check_arm (λ w. check_code w (tree x).1) v (tree x).0) v xs)
        → (c >>= (λ a. check_arms a.0 (arm_trees (map tree xs)) >>= ahead a.1))
        ≡ (c >>= (λ a. each (λ v x. check_arm (λ w. check_code w (tree x).1) v (tree x).0) a.0 xs >>= ahead a.1))
    by (found a) ih = ap (λ d. d >>= ahead a.1) (ih a.0)
    by (broken at) ih = refl
