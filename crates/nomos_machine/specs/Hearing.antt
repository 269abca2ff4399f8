-- What an outside party hears on its channel, and what becomes of it.
use Rattle.std.specs.Prelude.{◌≡◌, ℕ, ◌==◌, not, true, List, [], ◌∷◌, filter, map, Option, Some, None, IsSome}
use Rattle.nomos_machine.specs.Change.{Change, changed, no_change}
use Rattle.nomos_machine.specs.Opening.{outside_name}
use Rattle.nomos_machine.specs.Optional.{◌>>=◌}
use Rattle.nomos_machine.specs.Revised.{renamed}
use Rattle.nomos_machine.specs.Sight.{message_on}
use Rattle.nomos_machine.specs.State.{State}
use Rattle.nomos_machine.specs.declared.object.Heard.{Heard}
use Rattle.nomos_machine.specs.declared.object.Heard.TheVariants as heard
use Rattle.nomos_machine.specs.declared.object.Message.{Message}
use Rattle.nomos_machine.specs.declared.object.Payload.{Payload}
use Rattle.nomos_machine.specs.declared.object.Payload.TheVariants as payload

-- ---- what is there to be heard

-- the message to the client that is read on the outside name, if there is one
abbrev pub heard_message : State → Option Message
heard_message s = outside_name s >>= message_on s.objects true

-- what is heard of a message that brings this and carries so much; one that brings a channel is not heard
abbrev pub heard_of : Payload → ℕ → Option Heard
heard_of (payload.Label l) gas = Some (heard.Label l)
heard_of (payload.Value v) gas = Some (heard.Value v)
heard_of (payload.Channel name) gas = None
heard_of payload.Pay gas = Some (heard.Paid gas)
heard_of payload.Close gas = Some heard.Closed

-- a message that is there for the outside party can be heard: it brings no channel
abbrev pub IsHearable : State → Type 0
IsHearable s = (m : Message) → heard_message s ≡ Some m → IsSome (heard_of m.payload m.purse)

-- ---- what becomes of it

-- the outside names, where a talk goes on under another name, or has ended
abbrev pub heard_names : ℕ → Option ℕ → List ℕ → List ℕ
heard_names name (Some next) outside = map (renamed name next) outside
heard_names name None outside = filter (λ n. not (n == name)) outside

-- The message leaves; the outside name is then the next one, or gone; and the account gets what the message carries.
abbrev pub hears : State → Message → ℕ → Change
hears s m account = record (no_change s) {
  places = (m.number, None) ∷ [];
  outside = heard_names m.from m.next s.outside;
  gets = Some (account, m.purse);
}

-- The message that is there is heard, and the account gets what it carries.
pub record Hears (s : State) (account : ℕ) (what : Heard) (t : State) : Type 0 where
  pub message : Message
  pub there : heard_message s ≡ Some message
  pub is : heard_of message.payload message.purse ≡ Some what
  pub after : t ≡ changed s (hears s message account)

-- the answer to one who listens: what is heard; or there is nothing, and nothing changes
abbrev pub AnswersHearing : State → ℕ → Option Heard → State → Type 0
AnswersHearing s account (Some what) t = Hears s account what t
AnswersHearing s account None t = (heard_message s ≡ None) × (t ≡ s)
