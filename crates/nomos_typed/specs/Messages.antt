-- The messages of a state by themselves.
use Rattle.std.specs.Prelude.{All}
use Rattle.nomos_contents.specs.declared.data.StateData.{StateData}
use Rattle.nomos_machine.specs.State.{NameTypes}
use Rattle.nomos_machine.specs.TypedMessage.{MessageTyped}
use Rattle.nomos_machine.specs.declared.object.Object.{Object}
use Rattle.nomos_machine.specs.declared.object.Object.TheVariants as object
use Rattle.nomos_types.specs.Acceptance.{Acceptance}

-- where it is a message, it is typed
abbrev pub IsMessageTyped : Acceptance → NameTypes → Object → Type 0
IsMessageTyped a types (object.Process p) = Unit {0}
IsMessageTyped a types (object.Message m) = MessageTyped a types m

-- all messages of the data are
abbrev pub AreMessagesTyped : Acceptance → StateData → Type 0
AreMessagesTyped a d = All (IsMessageTyped a d.types) d.objects
