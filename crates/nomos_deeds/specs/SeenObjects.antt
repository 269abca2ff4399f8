-- What a firing sees of a process, a message and a list: all but values, lists, channels and elements.
use Rattle.std.specs.Prelude.{ℕ, Bool, true, false, List, [], ◌∷◌, Option, Some, None}
use Rattle.nomos_ir.specs.Value.{Value}
use Rattle.nomos_ir.specs.declared.ids.Label.{Label}
use Rattle.nomos_machine.specs.declared.object.Message.{Message}
use Rattle.nomos_machine.specs.declared.object.Payload.{Payload}
use Rattle.nomos_machine.specs.declared.object.Payload.TheVariants as payload
use Rattle.nomos_machine.specs.declared.object.PotentialList.{PotentialList}
use Rattle.nomos_machine.specs.declared.object.Process.{Process}
use Rattle.nomos_deeds.specs.declared.sight.SeenList.{SeenList}
use Rattle.nomos_deeds.specs.declared.sight.SeenMessage.{SeenMessage}
use Rattle.nomos_deeds.specs.declared.sight.SeenPayload.{SeenPayload}
use Rattle.nomos_deeds.specs.declared.sight.SeenPayload.TheVariants as seen
use Rattle.nomos_deeds.specs.declared.sight.SeenProcess.{SeenProcess}

abbrev pub seen_process : Process → SeenProcess
seen_process p = record {
  pid = p.pid;
  mode = p.mode;
  code = p.code;
  offers = p.offers;
  base = p.base;
  purse = p.purse;
  payer = p.payer;
}

abbrev pub seen_payload : Payload → SeenPayload
seen_payload (payload.Label l) = seen.Label l
seen_payload (payload.Value x) = seen.Value
seen_payload (payload.Channel name) = seen.Channel name
seen_payload payload.Pay = seen.Pay
seen_payload payload.Close = seen.Close

abbrev pub seen_message : Message → SeenMessage
seen_message m = record { number = m.number; next = m.next; brings = seen_payload m.payload }

abbrev pub is_empty : List Value → Bool
is_empty [] = true
is_empty (x ∷ xs) = false

abbrev pub seen_list : PotentialList → SeenList
seen_list l = record { amount = l.amount; is_empty = is_empty l.items }

-- ---- what a message brings, as it is seen

abbrev pub seen_label : SeenPayload → Option Label
seen_label (seen.Label l) = Some l
seen_label _ = None

abbrev pub seen_channel : SeenPayload → Option ℕ
seen_channel (seen.Channel name) = Some name
seen_channel _ = None

abbrev pub brings_value : SeenPayload → Bool
brings_value seen.Value = true
brings_value _ = false

abbrev pub brings_potential : SeenPayload → Bool
brings_potential seen.Pay = true
brings_potential _ = false
