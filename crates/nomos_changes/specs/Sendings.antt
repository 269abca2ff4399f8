-- What is sent, and what becomes of the sender beside it.
use Rattle.std.specs.Prelude.{ℕ, Bool, List, true, false, Option, Some}
use Rattle.nomos_ir.specs.Value.{Value}
use Rattle.nomos_ir.specs.declared.ids.TypeId.{TypeId}
use Rattle.nomos_machine.specs.Deeds.{one_of}
use Rattle.nomos_machine.specs.Optional.{◌>>=◌}
use Rattle.nomos_machine.specs.Revised.{without_channel, poorer}
use Rattle.nomos_machine.specs.State.{State}
use Rattle.nomos_machine.specs.declared.object.Message.{Message}
use Rattle.nomos_machine.specs.declared.object.Object.TheVariants as object
use Rattle.nomos_machine.specs.declared.object.Payload.{Payload}
use Rattle.nomos_machine.specs.declared.object.Payload.TheVariants as payload
use Rattle.nomos_machine.specs.declared.object.Process.{Process}
use Rattle.nomos_deeds.specs.declared.act.Sending.{Sending}
use Rattle.nomos_deeds.specs.declared.act.Sending.TheVariants as sending
use Rattle.nomos_changes.specs.SmallChanges.{with_name, with_object}

-- what the message brings, where the terms have these values
abbrev pub brought_by : Sending → List Value → Option Payload
brought_by (sending.Label l) vs = Some (payload.Label l)
brought_by (sending.Channel y name is_reference) vs = Some (payload.Channel name)
brought_by sending.Value vs = one_of vs >>= λ x. Some (payload.Value x)
brought_by (sending.Potential gas) vs = Some payload.Pay

-- the gas that it carries, in Dths
abbrev pub gas_of_sending : Sending → ℕ
gas_of_sending (sending.Potential gas) = gas
gas_of_sending _ = 0

-- the sender, from whose hands it is
abbrev pub after_sending : Sending → Process → Process
after_sending (sending.Channel y name true) p = p
after_sending (sending.Channel y name false) p = without_channel y p
after_sending (sending.Potential gas) p = poorer gas p
after_sending _ p = p

-- a channel that is sent, and is no reference, is its no longer
abbrev pub handing_over : Sending → Process → Process
handing_over (sending.Channel y name false) p = without_channel y p
handing_over _ p = p

-- ---- a message that is sent

abbrev pub message_sent : State → Bool → ℕ → Payload → ℕ → Message
message_sent s to_client from brought gas = record {
  number = s.next_object;
  to_client = to_client;
  from = from;
  next = Some s.next_name;
  payload = brought;
  purse = gas;
}

-- it comes, and so does the name under which the talk goes on, with this type
abbrev pub with_sent : Bool → ℕ → Payload → ℕ → TypeId → State → State
with_sent to_client from brought gas goes s =
    with_name goes (with_object (object.Message (message_sent s to_client from brought gas)) s)
