-- Who does something with a name, by tallies.
use Rattle.std.specs.Prelude.{◌≡◌, ℕ, Bool, true, false, List}
use Rattle.nomos_machine.specs.Objects.{times}
use Rattle.nomos_machine.specs.declared.object.Object.{Object}
use Rattle.nomos_state.specs.NameUses.{DoesAt}
use Rattle.nomos_state.specs.Tallying.{names_of}
use Rattle.nomos_state.specs.declared.tally.NameUse.{NameUse}
use Rattle.nomos_state.specs.declared.tally.NameUse.TheVariants as doing
use Rattle.nomos_state.specs.declared.finding.Holder.{Holder}
use Rattle.nomos_state.specs.declared.finding.Holder.TheVariants as found

-- Nobody does it; or the object of the hint does, and it is done once; or nothing is said.
abbrev pub IsFoundBy : NameUse → List Object → ℕ → Holder → Type 0
IsFoundBy d objects name found.Nobody = times (names_of d) objects name ≡ 0
IsFoundBy d objects name (found.One by) =
    (times (names_of d) objects name ≡ 1) × DoesAt (names_of d) objects by.object name
IsFoundBy d objects name found.Unknown = Unit {0}

-- what a message that goes this way does with the name on which it is read
abbrev pub doing_of : Bool → NameUse
doing_of true = doing.Provides
doing_of false = doing.Uses
