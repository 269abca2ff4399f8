-- The names of a state by themselves: which have a type, and who provides and uses them.
use Rattle.std.specs.Prelude.{◌≡◌, ◌≤◌, ◌↔◌, ℕ, Some, IsSome}
use Rattle.nomos_contents.specs.Data.{state_of}
use Rattle.nomos_contents.specs.declared.data.StateData.{StateData}
use Rattle.nomos_ir.specs.declared.ids.TypeId.{TypeId}
use Rattle.nomos_ir.specs.declared.mode.Mode.{Mode}
use Rattle.nomos_machine.specs.Objects.{mentioned, times}
use Rattle.nomos_machine.specs.State.{type_of}
use Rattle.nomos_machine.specs.TypedState.{IsOwned}
use Rattle.nomos_types.specs.Acceptance.{Acceptance}
use Rattle.nomos_types.specs.Modes.{HasMode}

-- exactly the names that objects mention have a type
abbrev pub AreNamesMentioned : StateData → Type 0
AreNamesMentioned d = (name : ℕ) → IsSome (type_of d.types name) ↔ (1 ≤ times mentioned d.objects name)

-- each name has the providers and users that its mode asks for
abbrev pub AreNamesOwned : Acceptance → StateData → Type 0
AreNamesOwned a d = (name : ℕ) (t : TypeId) (m : Mode) → type_of d.types name ≡ Some t → HasMode a.program t m
    → IsOwned m (state_of d) name
