-- Slots under numbers: what stands under one, and what changes of slots make of a list of them.
use Rattle.std.specs.Prelude.{◌≡◌, ◌≢◌, ◌≤◌, ◌==◌, ◌-◌, ◌++◌, ℕ, zero, suc, cond, List, [], ◌∷◌, length, min, map, filter, take, drop, slice_get, is_some, Option, Some, None, MatchOption, IfSome, All, refl}
use Rattle.std.specs.List.Sorted.{IsStrictlySortedBy}
use Rattle.std.specs.Ordering.{nat_cmp}
use Rattle.std.specs.Coded.{Coded, code_by, coded×, coded_ℕ, coded_option}
use Rattle.nomos_slots.specs.Marking.{Marking}
use Rattle.nomos_slots.specs.declared.numbered.Slot.{Slot}

-- a slot is stored as the pair of its fields
abbrev pub slot_code : {X : Type 0} → Coded X → Coded (Slot X)
slot_code {X} code =
    code_by
    (ℕ × Option X)
    (coded× coded_ℕ (coded_option code))
    (λ s. (s.number, s.item))
    (λ p. record { number = p.0; item = p.1 })
    (λ _. refl)

module _ {X : Type 0} where
  -- the numbers of slots
  abbrev pub numbers : List (Slot X) → List ℕ
  numbers slots = map (λ slot. slot.number) slots

  -- each slot has a number below those of the slots after it
  abbrev pub IsAscending : List (Slot X) → Type 0
  IsAscending slots = IsStrictlySortedBy nat_cmp (numbers slots)

  -- what stands under a number: nothing at a gap, and where no slot has the number
  abbrev pub found : List (Slot X) → ℕ → Option X
  found [] number = None
  found (slot ∷ slots) number = cond (slot.number == number) slot.item (found slots number)

  -- the place of the slot that has this number, and no place exactly where no slot has it
  abbrev pub IsPlaceOf : ℕ → List (Slot X) → Option ℕ → Type 0
  IsPlaceOf number slots result =
      MatchOption
      result
      (All (λ n. n ≢ number) (numbers slots))
      (λ place. slice_get (numbers slots) place ≡ Some number)

  -- the slot at this place keeps its number and has this item; past the last slot nothing is changed
  abbrev pub put_at : List (Slot X) → ℕ → Option X → List (Slot X)
  put_at [] place item = []
  put_at (slot ∷ slots) zero item = record { number = slot.number; item = item } ∷ slots
  put_at (slot ∷ slots) (suc place) item = slot ∷ put_at slots place item

  -- the slots before this place, and of the others those with an item
  abbrev pub close_gaps : ℕ → List (Slot X) → List (Slot X)
  close_gaps from slots = take from slots ++ filter (λ slot. is_some slot.item) (drop from slots)

  -- as a column is seen here: there is room for as many slots more as there are seats beside those that are there
  abbrev pub numbered_of : Marking (Slot X) → Marking (Slot X)
  numbered_of kept = record kept { room = min kept.room (kept.seats - length kept.now) }

  -- The numbers of the slots ascend, now and where they are marked; and the log has a seat for each slot.
  pub record IsInOrder (kept : Marking (Slot X)) : Type 0 where
    pub now : IsAscending kept.now
    pub marked : IfSome kept.marked IsAscending
    pub seats : length kept.now ≤ kept.seats
