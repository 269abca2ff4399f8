-- Rows that stand beside slots.
use Rattle.std.specs.Prelude.{ℕ, zero, suc, Bool, false, cond, List, [], ◌∷◌, Option, Some, None, slice_get}
use Rattle.std.specs.Option.{is_some}
use Rattle.nomos_slots.specs.declared.numbered.Slot.{Slot}

module _ {X : Type 0} where
  -- whether something stands in a slot, and in the one at a place: nothing past the last one
  abbrev pub is_held : Option (Slot X) → Bool
  is_held None = false
  is_held (Some slot) = is_some slot.item

  abbrev pub is_held_at : List (Slot X) → ℕ → Bool
  is_held_at slots place = is_held (slice_get slots place)

  -- the rows before this place, and of the others those beside a slot with an item
  abbrev pub close_rows : {R : Type 0} → ℕ → List (Slot X) → List R → List R
  close_rows zero (slot ∷ slots) (row ∷ rows) =
      cond (is_some slot.item) (row ∷ close_rows zero slots rows) (close_rows zero slots rows)
  close_rows (suc from) (slot ∷ slots) (row ∷ rows) = row ∷ close_rows from slots rows
  close_rows from slots rows = []
