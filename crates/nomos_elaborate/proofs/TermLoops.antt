-- The terms of a call, one after the other.
use Rattle.std.proofs.Common.{◌≡◌, List, [], ◌∷◌, map, refl, ap}
use Rattle.nomos_elaborate.proofs.Loops.{ahead}
use Rattle.nomos_elaborate.specs.declared.elaborator.Elaborator.{Elaborator}
use Rattle.nomos_elaborate.specs.mirror.Checked.{Checked, found, broken, ◌>>=◌}
use Rattle.nomos_elaborate.specs.mirror.Each.{each}
use Rattle.nomos_elaborate.specs.mirror.TermCheck.{check_term, check_terms}
use Rattle.nomos_ir.specs.declared.ids.TermId.{TermId}
use Rattle.nomos_surface.specs.Tree.{TermTree}
use Rattle.nomos_surface.specs.TermView.{term_trees}

-- what terms give is what each gives
pub terms_are_each : {X : Type 0} (tree : X → TermTree) (w : Elaborator) (xs : List X)
    → check_terms w (term_trees (map tree xs)) ≡ each (λ v x. check_term v (tree x)) w xs
unfolding check_terms each
terms_are_each tree w [] = refl
terms_are_each tree w (x ∷ xs) = by (check_term w (tree x)) (λ v. terms_are_each tree v xs)
  where
    by : (c : Checked (Elaborator × TermId))
        → ((v : Elaborator) → check_terms v (term_trees (map tree xs)) ≡ each (λ v x. check_term v (tree x)) v xs)
        → (c >>= (λ a. check_terms a.0 (term_trees (map tree xs)) >>= ahead a.1))
        ≡ (c >>= (λ a. each (λ v x. check_term v (tree x)) a.0 xs >>= ahead a.1))
    by (found a) ih = ap (λ d. d >>= ahead a.1) (ih a.0)
    by (broken at) ih = refl
