-- Slots whose numbers are not over one.
use Rattle.std.specs.Prelude.{◌≡◌, ◌≤◌, ◌<◌, ℕ, List, Some, slice_get}
use Rattle.nomos_slots.specs.Numbers.{numbers}
use Rattle.nomos_slots.specs.declared.numbered.Slot.{Slot}

-- no slot before this place has a number over this one
abbrev pub AreNotOver : {X : Type 0} → ℕ → List (Slot X) → ℕ → Type 0
AreNotOver after slots start =
    (place number : ℕ) → place < start → slice_get (numbers slots) place ≡ Some number → number ≤ after
