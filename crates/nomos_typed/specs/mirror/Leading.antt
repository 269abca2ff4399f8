-- A mirror of the code: where one comes to from names, by pairs of names.
use Rattle.std.specs.Prelude.{◌≡◌, ◌↔◌, ℕ, Bool, List, [], ◌++◌, map, All, Contains, Option, if◌then◌else◌}
use Rattle.std.specs.Option.{option_to_list}
use Rattle.nomos_ir.specs.declared.mode.Mode.{Mode}
use Rattle.nomos_ir.specs.declared.mode.Mode.TheVariants as mode
use Rattle.nomos_machine.specs.declared.object.Object.{Object}
use Rattle.nomos_machine.specs.declared.object.Object.TheVariants as object
use Rattle.nomos_typed.specs.declared.leading.Led.{Led}
use Rattle.nomos_typed.specs.declared.leading.Onward.{Onward}

-- from the end of a message's talk to what it provides
abbrev pub onward_by : Bool → ℕ → ℕ → Onward
onward_by to_client from next =
    if to_client then record { end = next; name = from } else record { end = from; name = next }

abbrev pub onward_of : Object → List Onward
onward_of (object.Process p) = []
onward_of (object.Message m) = map (onward_by m.to_client m.from) (option_to_list m.next)

-- from what a process of mode L offers to its base
abbrev pub led_by : Mode → ℕ → Option ℕ → List Led
led_by mode.L offers base = map (λ b. record { name = offers; base = b }) (option_to_list base)
led_by _ offers base = []

abbrev pub led_of : Object → List Led
led_of (object.Process p) = led_by p.mode p.offers p.base
led_of (object.Message m) = []

-- these lead to a base, and so does what one comes to from a talk's end that does
pub data IsLed (start : List Led) (onwards : List Onward) (base : ℕ) : ℕ → Type 0 where
  first : (l : Led) → Contains start l → l.base ≡ base → IsLed start onwards base l.name
  further : (o : Onward) → Contains onwards o → IsLed start onwards base o.end → IsLed start onwards base o.name

-- what one comes to, with the base
abbrev pub led_from : Led → Onward → Led
led_from l o = record { name = o.name; base = l.base }

-- what one comes to from this name is added
pub record PushesOnward (onwards : List Onward) (l : Led) (old new : List Led) : Type 0 where
  pub more : List Led
  pub pushed : new ≡ old ++ more
  pub sound : All (λ k. (k.base ≡ l.base) × Contains onwards (record { end = l.name; name = k.name })) more
  pub complete : (o : Onward) → Contains onwards o → o.end ≡ l.name
      → Contains more (record { name = o.name; base = l.base })

-- exactly the names that lead to bases are there, each with its base
abbrev pub AreLed : List Led → List Onward → List Led → Type 0
AreLed start onwards led = (l : Led) → Contains led l ↔ IsLed start onwards l.base l.name
