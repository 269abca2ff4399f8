-- What an outside party hears, and what stands in the state where it does.
use Rattle.std.specs.Prelude.{◌≡◌, ◌<◌, ◌^◌, ℕ, List, [], ◌∷◌, Option, Some, IsSome}
use Rattle.nomos_deeds.specs.Acts.{message_at}
use Rattle.nomos_deeds.specs.SeenObjects.{seen_message}
use Rattle.nomos_deeds.specs.declared.sight.SeenMessage.{SeenMessage}
use Rattle.nomos_machine.specs.Hearing.{heard_of}
use Rattle.nomos_machine.specs.Optional.{◌>>=◌}
use Rattle.nomos_machine.specs.State.{State}
use Rattle.nomos_machine.specs.declared.object.Heard.{Heard}
use Rattle.nomos_machine.specs.declared.object.Message.{Message}
use Rattle.nomos_machine.specs.declared.object.Object.{Object}

-- what is heard of the message of a number
abbrev pub heard_at : List Object → ℕ → Option Heard
heard_at objects number = message_at objects number >>= λ m. heard_of m.payload m.purse

-- The message that is seen so is read on the one outside name; it can be heard, and what it carries fits 64 bits.
pub record IsThere (s : State) (name : ℕ) (seen : SeenMessage) : Type 0 where
  pub message : Message
  pub found : message_at s.objects seen.number ≡ Some message
  pub is : seen ≡ seen_message message
  pub read : message.from ≡ name
  pub alone : s.outside ≡ name ∷ []
  pub heard : IsSome (heard_of message.payload message.purse)
  pub small : message.purse < 2 ^ 64
