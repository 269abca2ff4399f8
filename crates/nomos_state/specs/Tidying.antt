-- Names that no object mentions lose their types, one after the other or by themselves.
use Rattle.std.specs.Prelude.{ℕ, zero, suc, ◌==◌, not, cond, List, [], ◌∷◌, filter, None}
use Rattle.nomos_ir.specs.declared.ids.TypeId.{TypeId}
use Rattle.nomos_machine.specs.Change.{is_mentioned}
use Rattle.nomos_machine.specs.State.{State}
use Rattle.nomos_machine.specs.declared.object.Object.{Object}
use Rattle.nomos_slots.specs.declared.numbered.Slot.{Slot}

-- the slot of a name, which is a gap where no object mentions the name
abbrev pub tidied_slot : List Object → Slot TypeId → Slot TypeId
tidied_slot objects s = record { number = s.number; item = cond (is_mentioned objects s.number) s.item None }

-- the same of the slot at a place
abbrev pub tidied_at : List Object → ℕ → List (Slot TypeId) → List (Slot TypeId)
tidied_at objects place [] = []
tidied_at objects zero (s ∷ names) = tidied_slot objects s ∷ names
tidied_at objects (suc place) (s ∷ names) = s ∷ tidied_at objects place names

-- a name has no type any more
abbrev pub without_type : ℕ → State → State
without_type name s = record s { types = filter (λ t. not (t.0 == name)) s.types }

-- so has one that no object mentions
abbrev pub tidied_of : ℕ → State → State
tidied_of name s = cond (is_mentioned s.objects name) s (without_type name s)
