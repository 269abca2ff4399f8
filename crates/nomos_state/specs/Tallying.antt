-- How often a name is provided, used and a base, as tallies say it.
use Rattle.std.specs.Prelude.{◌≡◌, ◌+◌, ℕ, Bool, true, List, [], map, Option, Some, None, IfSome, slice_get}
use Rattle.nomos_ir.specs.Order.{count_of}
use Rattle.nomos_machine.specs.Objects.{based, provided, times, used}
use Rattle.nomos_machine.specs.declared.object.Object.{Object}
use Rattle.nomos_machine.specs.declared.object.Process.{Process}
use Rattle.nomos_slots.specs.Numbers.{found}
use Rattle.nomos_slots.specs.declared.numbered.Slot.{Slot}
use Rattle.nomos_state.specs.declared.tally.NameUse.{NameUse}
use Rattle.nomos_state.specs.declared.tally.NameUse.TheVariants as doing
use Rattle.nomos_state.specs.declared.tally.Tally.{Tally}

-- how often a tally says that it is done
abbrev pub counted : NameUse → Tally → ℕ
counted doing.Provides t = t.provided
counted doing.Uses t = t.used
counted doing.Bases t = t.based

-- one where both are the same, and nothing otherwise
abbrev pub one_if : NameUse → NameUse → ℕ
one_if doing.Provides doing.Provides = 1
one_if doing.Uses doing.Uses = 1
one_if doing.Bases doing.Bases = 1
one_if _ _ = 0

-- the names with which an object does this
abbrev pub names_of : NameUse → Object → List ℕ
names_of doing.Provides o = provided o
names_of doing.Uses o = used o
names_of doing.Bases o = based o

-- how often a tally that may be there says that it is done
abbrev pub counted_in : NameUse → Option Tally → ℕ
counted_in d None = 0
counted_in d (Some t) = counted d t

-- how often it is done with a name, by tallies under names: no time, where the name has none
abbrev pub tallied : List (Slot Tally) → NameUse → ℕ → ℕ
tallied tallies d name = counted_in d (found tallies name)

-- Tallies are right: each is as often done with each name as they say. So no object mentions a name without a tally.
abbrev pub AreRight : List (Slot Tally) → List Object → Type 0
AreRight tallies objects = (d : NameUse) (name : ℕ) → tallied tallies d name ≡ times (names_of d) objects name

-- the same, where it is said that they are
abbrev pub AreRightIf : Bool → List (Slot Tally) → List Object → Type 0
AreRightIf exact tallies objects = exact ≡ true → AreRight tallies objects

-- where the tally of a name stands, and the tally
abbrev pub IsTallyAt : List (Slot Tally) → ℕ → Option (ℕ × Tally) → Type 0
IsTallyAt tallies name result =
    IfSome result (λ r. slice_get tallies r.0 ≡ Some (record { number = name; item = Some r.1 }))

-- these names, where both are the same, and none otherwise
abbrev pub only : NameUse → List ℕ → NameUse → List ℕ
only doing.Provides names doing.Provides = names
only doing.Uses names doing.Uses = names
only doing.Bases names doing.Bases = names
only _ names _ = []

-- what a process does with names by its channels
abbrev pub channels_used : Process → NameUse → List ℕ
channels_used p d = only doing.Uses (map (λ e. e.1) p.channels) d

-- no names, whatever is done
abbrev pub nothing : NameUse → List ℕ
nothing d = []

-- Tallies afterwards say so much less and so much more than before.
abbrev pub Shifts : List (Slot Tally) → List (Slot Tally) → (NameUse → List ℕ) → (NameUse → List ℕ) → Type 0
Shifts before after less more = (d : NameUse) (name : ℕ)
    → tallied after d name + count_of name (less d) ≡ tallied before d name + count_of name (more d)
