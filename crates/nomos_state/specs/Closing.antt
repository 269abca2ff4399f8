-- Rows that are marked beside slots.
use Rattle.std.specs.Prelude.{◌≡◌, List, length, Option, Some, None}
use Rattle.nomos_slots.specs.declared.numbered.Slot.{Slot}

-- as many rows as slots are marked, or neither are
abbrev pub AreBeside : {X R : Type 0} → Option (List (Slot X)) → Option (List R) → Type 0
AreBeside (Some slots) (Some rows) = length rows ≡ length slots
AreBeside None None = Unit {0}
AreBeside _ _ = ⊥
