-- Rows of lists, one of which is changed, and then changed again.
use Rattle.std.proofs.Common.{◌≡◌, ◌≤◌, ◌<◌, ◌∙◌, ℕ, false, List, [], length, Option, IfSome, set, inl, inr, sym, ap, subst}
use Rattle.std.proofs.lemmas.List.{get_or-set_same, set-set}
use Rattle.std.specs.List.{slice_index_or}
use Rattle.nomos_slots.specs.Rows.{IsFree}
use Rattle.nomos_slots.specs.Shelving.{Shelving}

module _ {X : Type 0} where
  -- a free row stays free, where marks and what is freed stay
  pub free-still : (s t : Shelving X) (place : ℕ) → t.marked ≡ s.marked → t.freed ≡ s.freed → IsFree s place
      → IsFree t place
  free-still s t place marked freed free =
      elim free [
        | inl late ↦
            inl (subst (λ (m : Option (List (List X))). IfSome m (λ rows. length rows ≤ place)) (sym marked) late)
        | inr is ↦ inr (ap (λ f. slice_index_or f place false) freed ∙ is)
      ]

  -- a row is changed, and what stands there then is changed
  pub changed-twice : (rows : List (List X)) (place : ℕ) (row : List X) (f : List X → List X) → place < length rows
      → set (set rows place row) place (f (slice_index_or (set rows place row) place [])) ≡ set rows place (f row)
  changed-twice rows place row f within =
      ap (λ r. set (set rows place row) place (f r)) (get_or-set_same rows place row [] within)
      ∙ set-set rows place row (f row)
