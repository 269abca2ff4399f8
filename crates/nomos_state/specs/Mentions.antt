-- The names that a message mentions, each in its place.
use Rattle.std.specs.Prelude.{ℕ, Option, Some, None, if◌then◌else◌}
use Rattle.nomos_machine.specs.declared.object.Message.{Message}
use Rattle.nomos_machine.specs.declared.object.Payload.{Payload}
use Rattle.nomos_machine.specs.declared.object.Payload.TheVariants as payload
use Rattle.nomos_state.specs.declared.mentions.MessageNames.{MessageNames}

-- the channel that is brought
abbrev pub channel_in : Payload → Option ℕ
channel_in (payload.Channel name) = Some name
channel_in _ = None

-- the name that a message provides, the other end of its talk, and the channel that it brings
abbrev pub names_in : Message → MessageNames
names_in m = record {
  provides = if m.to_client then Some m.from else m.next;
  end = if m.to_client then m.next else Some m.from;
  brings = channel_in m.payload;
}
