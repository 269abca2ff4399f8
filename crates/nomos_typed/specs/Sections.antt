-- Critical sections of a state by themselves.
use Rattle.std.specs.Prelude.{◌≡◌, ◌<◌, ℕ, length, Some}
use Rattle.nomos_contents.specs.Data.{state_of}
use Rattle.nomos_contents.specs.declared.data.StateData.{StateData}
use Rattle.nomos_ir.specs.declared.ids.TypeId.{TypeId}
use Rattle.nomos_ir.specs.declared.mode.Mode.TheVariants as mode
use Rattle.nomos_machine.specs.State.{type_of}
use Rattle.nomos_machine.specs.TypedState.{InSection}
use Rattle.nomos_types.specs.Acceptance.{Acceptance}
use Rattle.nomos_types.specs.Modes.{HasMode}

-- the talk on the name is in a section, and the type of its contract is one of the program's
pub record IsSectionIn (a : Acceptance) (d : StateData) (name : ℕ) (t : TypeId) : Type 0 where
  pub section : InSection a (state_of d) name t
  pub within : section.shared.0 < length a.program.types

-- each talk on a name of mode L is in such a section
abbrev pub AreInSections : Acceptance → StateData → Type 0
AreInSections a d = (name : ℕ) (t : TypeId) → type_of d.types name ≡ Some t → HasMode a.program t mode.L
    → IsSectionIn a d name t
