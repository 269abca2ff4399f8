-- Declarations, one after the other.
use Rattle.std.proofs.Common.{◌≡◌, ℕ, ◌+◌, ◌<◌, ◌≤◌, List, [], ◌∷◌, length, map, drop, get_or, sym, ap, ◌∙◌}
use Rattle.std.proofs.lemmas.List.{drop_all, drop_more}
use Rattle.nomos_elaborate.proofs.StopLaws.{found_same, stops-then}
use Rattle.nomos_elaborate.specs.CostModel.{model_of}
use Rattle.nomos_elaborate.specs.Spaces.{declaring_all, no_names}
use Rattle.nomos_elaborate.specs.declared.elab_error.ElabError.{ElabError}
use Rattle.nomos_elaborate.specs.declared.spaces.Spaces.{Spaces}
use Rattle.nomos_elaborate.specs.mirror.Checked.{Checked, found, Stops, ◌>>=◌}
use Rattle.nomos_elaborate.specs.mirror.FileCheck.{Progress, all_made, begun, check_decl, check_decls, check_lists}
use Rattle.nomos_surface.specs.declared.surface.CostModel.{CostModel}
use Rattle.nomos_surface.specs.Tree.{DeclTree, FileTree}

module _ {X : Type 0} (xs : List X) (i : ℕ) (x : X) where
  -- the items that are left begin with this one
  pub items-left : i < length xs → x ≡ get_or xs i x → drop i xs ≡ x ∷ drop (i + 1) xs
  items-left below item = drop_more xs i x below ∙ ap (λ v. v ∷ drop (i + 1) xs) (sym item)

module _ {X : Type 0} (tree : X → DeclTree) (xs : List X) (i : ℕ) where
  -- the declarations that are left begin with this one
  left : (x : X) → i < length xs → x ≡ get_or xs i x → map tree (drop i xs) ≡ tree x ∷ map tree (drop (i + 1) xs)
  left x below item = ap (map tree) (items-left xs i x below item)

  none : length xs ≤ i → map tree (drop i xs) ≡ []
  none all = ap (map tree) (drop_all i xs all)

  -- one more declaration
  pub decls_next : (v w : Progress) (total : Checked Progress) (x : X) → i < length xs → x ≡ get_or xs i x
      → check_decl v (tree x) ≡ found w → check_decls v (map tree (drop i xs)) ≡ total
      → check_decls w (map tree (drop (i + 1) xs)) ≡ total
  decls_next v w total x below item e held =
      sym (ap (λ c. c >>= (λ u. check_decls u (map tree (drop (i + 1) xs)))) e)
      ∙ sym (ap (check_decls v) (left x below item)) ∙ held

  pub decls_stop : (v : Progress) (total : Checked Progress) (x : X) (e : ElabError) → i < length xs → x ≡ get_or xs i x
      → Stops e (check_decl v (tree x)) → check_decls v (map tree (drop i xs)) ≡ total → Stops e total
  decls_stop v total x e below item h held =
      rw (sym (sym (ap (check_decls v) (left x below item)) ∙ held))
      (stops-then e (check_decl v (tree x)) (λ u. check_decls u (map tree (drop (i + 1) xs))) h)

  pub decls_all : (v : Progress) (total : Checked Progress) → length xs ≤ i
      → check_decls v (map tree (drop i xs)) ≡ total → total ≡ found v
  decls_all v total all held = sym held ∙ ap (check_decls v) (none all)

-- where the declarations end early, so does the whole
pub lists_stop : (tree : FileTree) (decls : List DeclTree) (spaces : Spaces) (model : CostModel) (v : Progress)
    (e : ElabError)
    → decls ≡ tree.decls → found (declaring_all no_names decls) ≡ found spaces → model ≡ model_of tree.cost
    → v ≡ begun spaces model
    → Stops e (check_decls v decls) → Stops e (check_lists tree)
lists_stop tree decls spaces model v e d s m b h =
    let begin : v ≡ begun (declaring_all no_names tree.decls) (model_of tree.cost) = b
    ∙ (λ i. begun ((sym (found_same s) ∙ ap (declaring_all no_names) d) i) (m i)) in
    let same : check_decls v decls ≡ check_decls (begun (declaring_all no_names tree.decls) (model_of tree.cost))
    tree.decls = λ i. check_decls (begin i) (d i) in
    stops-then e (check_decls (begun (declaring_all no_names tree.decls) (model_of tree.cost)) tree.decls) all_made
    (rw (sym same) h)
