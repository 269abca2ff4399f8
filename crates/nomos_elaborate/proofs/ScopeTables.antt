-- The names that are bound, beside the texts that are kept.
use Rattle.std.proofs.Common.{◌≡◌, ℕ, Bool, true, false, List, [], ◌∷◌, map, refl, sym, ap, ◌∙◌}
use Rattle.std.specs.Str.{bytes_eq}
use Rattle.std.specs.Map.{lookup}
use Rattle.indexmap.specs.IndexMap.{insert_entry}
use Rattle.nomos_elaborate.proofs.NameTables.{bytes_eq_swap}
use Rattle.nomos_elaborate.specs.Scope.{Scope, sort_of, bind}
use Rattle.nomos_elaborate.specs.declared.sort.Sort.{Sort}
use Rattle.nomos_surface.specs.declared.name_at.NameAt.{NameAt}

module _ {K : Type 0} (text : K → List ℕ) where
  -- the texts with their sorts
  abbrev seen_as : List (K × Sort) → Scope
  seen_as es = map (λ e. (text e.0, e.1)) es

  -- what is found for a name is its sort
  pub lookup-sort_of : (n : List ℕ) (es : List (K × Sort))
      → lookup (λ k. bytes_eq n (text k)) es ≡ sort_of (seen_as es) n
  lookup-sort_of n [] = refl
  lookup-sort_of n (e ∷ es) = rw (bytes_eq_swap n (text e.0), lookup-sort_of n es) refl

  -- what is put for a name binds it
  pub insert-bind : (k : K) (s : Sort) (n : NameAt) → text k ≡ n.name → (es : List (K × Sort))
      → seen_as (insert_entry (λ a b. bytes_eq (text a) (text b)) es k s) ≡ bind (seen_as es) n s
  insert-bind k s n is [] = ap (λ (t : List ℕ). (t, s) ∷ []) is
  insert-bind k s n is (e ∷ es) = by (bytes_eq (text k) (text e.0)) refl (insert-bind k s n is es)
    where
      other : bytes_eq (text k) (text e.0) ≡ bytes_eq (text e.0) n.name
      other = bytes_eq_swap (text k) (text e.0) ∙ ap (bytes_eq (text e.0)) is

      by : (b : Bool) → bytes_eq (text k) (text e.0) ≡ b
          → seen_as (insert_entry (λ a b. bytes_eq (text a) (text b)) es k s) ≡ bind (seen_as es) n s
          → seen_as (insert_entry (λ a b. bytes_eq (text a) (text b)) (e ∷ es) k s) ≡ bind (seen_as (e ∷ es)) n s
      by true t ih = let o = sym other ∙ t in rw (t, o) refl
      by false t ih = let o = sym other ∙ t in rw (t, o, ih) refl
