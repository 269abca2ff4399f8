-- What is seen stands where its number says.
use Rattle.std.proofs.Common.{◌≡◌, ◌∙◌, ℕ, not, Bool, List, Option, Some, None, refl, sym, ap, option_and_then}
use Rattle.std.specs.Option.{option_map}
use Rattle.nomos_ir.specs.declared.code_node.Chan.{Chan}
use Rattle.nomos_types.specs.Acceptance.{Acceptance}
use Rattle.nomos_machine.specs.Change.{Change}
use Rattle.nomos_machine.specs.Deeds.{receives, takes}
use Rattle.nomos_machine.specs.Objects.{message_of}
use Rattle.nomos_machine.specs.Optional.{◌>>=◌}
use Rattle.nomos_machine.specs.Revised.{under_name}
use Rattle.nomos_machine.specs.Sight.{is_own, present_name, message_on}
use Rattle.nomos_machine.specs.State.{State}
use Rattle.nomos_machine.specs.declared.object.Message.{Message}
use Rattle.nomos_machine.specs.declared.object.Object.{Object}
use Rattle.nomos_machine.specs.declared.object.Object.TheVariants as object
use Rattle.nomos_machine.specs.declared.object.Payload.{Payload}
use Rattle.nomos_machine.specs.declared.object.Process.{Process}
use Rattle.nomos_machine.proofs.MessageLaws.{message_on-found}
use Rattle.nomos_machine.proofs.PutLaws.{InOrder, object_at-own}
use Rattle.nomos_deeds.specs.Acts.{message_at, read_by}
use Rattle.nomos_deeds.specs.SeenObjects.{seen_message}
use Rattle.nomos_deeds.specs.declared.sight.SeenMessage.{SeenMessage}

-- the message that is read on a name is the one of its number
pub read-at : (objects : List Object) (way : Bool) (name : ℕ) (m : Message) → InOrder objects
    → message_on objects way name ≡ Some m → message_at objects m.number ≡ Some m
read-at objects way name m order found =
    ap (option_and_then message_of)
    (object_at-own (object.Message m) objects order (message_on-found way name m objects found).waiting)

-- the message that a process reads, where one is seen
pub record ReadMessage (s : State) (p : Process) (c : Chan) (message : SeenMessage) : Type 0 where
  pub m : Message
  pub read : read_by s p c ≡ Some m
  pub seen : message ≡ seen_message m
  pub stands : message_at s.objects m.number ≡ Some m

pub read-seen : (s : State) (p : Process) (c : Chan) (message : SeenMessage) → InOrder s.objects
    → Some message ≡ option_map seen_message (read_by s p c) → ReadMessage s p c message
read-seen s p c message order is = on_name (present_name p c) refl
  where
    at : (name : ℕ) → present_name p c ≡ Some name → (o : Option Message)
        → message_on s.objects (not (is_own c)) name ≡ o → ReadMessage s p c message
    at name named (Some m) found =
        let read : read_by s p c ≡ Some m =
        ap (λ (o : Option ℕ). o >>= message_on s.objects (not (is_own c))) named ∙ found
        in
        let both : Some message ≡ Some (seen_message m) = is ∙ ap (option_map seen_message) read in
        record { m = m; read = read; seen = one both; stands = read-at s.objects (not (is_own c)) name m order found }
      where
        one : Some message ≡ Some (seen_message m) → message ≡ seen_message m
        one e = cc
    at name named None found =
        let read : read_by s p c ≡ None =
        ap (λ (o : Option ℕ). o >>= message_on s.objects (not (is_own c))) named ∙ found
        in
        let both : Some message ≡ None = is ∙ ap (option_map seen_message) read in
        absurd cc

    on_name : (o : Option ℕ) → present_name p c ≡ o → ReadMessage s p c message
    on_name (Some name) named = at name named (message_on s.objects (not (is_own c)) name) refl
    on_name None named =
        let read : read_by s p c ≡ None =
        ap (λ (o : Option ℕ). o >>= message_on s.objects (not (is_own c))) named
        in
        let both : Some message ≡ None = is ∙ ap (option_map seen_message) read in
        absurd cc

-- what a receive comes to where a message is read, and where none is
module _ (a : Acceptance) (s : State) (p : Process) (c : Chan) (reads : Payload → Process → Option Process) where
  abbrev pub receives_of : Message → Option Change
  receives_of m = m.next >>= λ name. reads m.payload (under_name c name p) >>= λ q. Some (takes a s p m q)

  pub receives-read : (m : Message) → read_by s p c ≡ Some m → receives a s p c reads ≡ receives_of m
  receives-read m read = at (present_name p c) read
    where
      at : (o : Option ℕ) → (o >>= message_on s.objects (not (is_own c))) ≡ Some m
          → (o >>= λ from. message_on s.objects (not (is_own c)) from >>= receives_of) ≡ receives_of m
      at (Some name) found = ap (λ (o : Option Message). o >>= receives_of) found
      at None found = absurd cc

-- ---- the message that a process reads

pub read-on : (s : State) (p : Process) (c : Chan) (name : ℕ) (way : Bool) → present_name p c ≡ Some name
    → way ≡ not (is_own c)
    → option_map seen_message (message_on s.objects way name) ≡ option_map seen_message (read_by s p c)
read-on s p c name way named is =
    ap (λ (w : Bool). option_map seen_message (message_on s.objects w name)) is
    ∙ sym (ap (λ (o : Option ℕ). option_map seen_message (o >>= message_on s.objects (not (is_own c)))) named)
