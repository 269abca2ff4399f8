-- The first of the written `work`.
use Rattle.std.proofs.Common.{◌≡◌, ℕ, ◌+◌, ◌<◌, List, [], ◌∷◌, ◌++◌, length, map, drop, get_or, Option, Some, refl, sym, ap, ◌∙◌}
use Rattle.std.proofs.lemmas.List.{drop_more}
use Rattle.std.specs.List.{flat_map}
use Rattle.nomos_elaborate.specs.WrittenWork.{arm_works, code_works, first_of_list}
use Rattle.nomos_surface.specs.CodeView.{arm_trees, Arm as Shown}

-- the first of the first offsets, and where there are none of the others
pub first-some : (a b : List ℕ) (at : ℕ) → first_of_list a ≡ Some at → first_of_list (a ++ b) ≡ Some at
first-some [] b at e = cc
first-some (x ∷ a) b at e = e

-- One turn of a loop: what is left gives what all gives.
module _ {X : Type 0} (works : X → List ℕ) (xs : List X) (i : ℕ) (total : Option ℕ) where
  left : (x : X) → i < length xs → x ≡ get_or xs i x
      → flat_map works (drop i xs) ≡ works x ++ flat_map works (drop (i + 1) xs)
  left x below item = ap (flat_map works) (drop_more xs i x below ∙ ap (λ v. v ∷ drop (i + 1) xs) (sym item))

  pub first-here : (x : X) (at : ℕ) → i < length xs → x ≡ get_or xs i x
      → first_of_list (flat_map works (drop i xs)) ≡ total → first_of_list (works x) ≡ Some at → Some at ≡ total
  first-here x at below item held e =
      sym (first-some (works x) _ at e) ∙ sym (ap first_of_list (left x below item)) ∙ held

-- what is in shown things
pub flat-shown : {X Z : Type 0} (works : Z → List ℕ) (shown : X → Z) (xs : List X)
    → flat_map (λ x. works (shown x)) xs ≡ flat_map works (map shown xs)
flat-shown works shown [] = refl
flat-shown works shown (x ∷ xs) = ap (λ r. works (shown x) ++ r) (flat-shown works shown xs)

-- the branches of a `case`
pub arms-flat : {X : Type 0} (tree : X → Shown) (xs : List X)
    → flat_map (λ x. code_works (tree x).1) xs ≡ arm_works (arm_trees (map tree xs))
unfolding arm_works
arms-flat tree [] = refl
arms-flat tree (x ∷ xs) = ap (λ r. code_works (tree x).1 ++ r) (arms-flat tree xs)
