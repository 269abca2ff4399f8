-- The names of declarations, one after the other.
use Rattle.std.proofs.Common.{◌≡◌, ℕ, ◌+◌, ◌<◌, ◌≤◌, List, [], ◌∷◌, length, map, drop, get_or, sym, ap, ◌∙◌}
use Rattle.std.proofs.lemmas.List.{drop_all}
use Rattle.nomos_elaborate.proofs.Loops.{items-left}
use Rattle.nomos_elaborate.proofs.StopLaws.{found_same}
use Rattle.nomos_elaborate.specs.Spaces.{declaring, declaring_all}
use Rattle.nomos_elaborate.specs.declared.spaces.Spaces.{Spaces}
use Rattle.nomos_elaborate.specs.mirror.Checked.{found}
use Rattle.nomos_surface.specs.Tree.{DeclTree}

module _ {X : Type 0} (tree : X → DeclTree) (xs : List X) (i : ℕ) where
  -- the declarations that are left begin with this one
  left : (x : X) → i < length xs → x ≡ get_or xs i x → map tree (drop i xs) ≡ tree x ∷ map tree (drop (i + 1) xs)
  left x below item = ap (map tree) (items-left xs i x below item)

  none : length xs ≤ i → map tree (drop i xs) ≡ []
  none all = ap (map tree) (drop_all i xs all)

  -- one more name
  pub names_next : (s t total : Spaces) (x : X) → i < length xs → x ≡ get_or xs i x
      → found (declaring s (tree x)) ≡ found t → declaring_all s (map tree (drop i xs)) ≡ total
      → declaring_all t (map tree (drop (i + 1) xs)) ≡ total
  names_next s t total x below item e held =
      ap (λ v. declaring_all v (map tree (drop (i + 1) xs))) (sym (found_same e))
      ∙ sym (ap (declaring_all s) (left x below item)) ∙ held

  pub names_all : (s total : Spaces) → length xs ≤ i → declaring_all s (map tree (drop i xs)) ≡ total
      → found total ≡ found s
  names_all s total all held = ap (λ v. found v) (sym held ∙ ap (declaring_all s) (none all))
