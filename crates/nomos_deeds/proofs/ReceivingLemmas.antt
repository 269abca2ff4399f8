-- What a process that receives comes to, by what its message brings.
use Rattle.std.proofs.Common.{◌≡◌, ◌∙◌, ℕ, true, cond, List, Option, Some, None, refl, sym, ap, option_and_then}
use Rattle.std.specs.Option.{option_map}
use Rattle.nomos_ir.specs.Bindings.{bound_to}
use Rattle.nomos_ir.specs.Value.{Value}
use Rattle.nomos_ir.specs.declared.code_node.Arm.{Arm}
use Rattle.nomos_ir.specs.declared.code_node.Chan.{Chan}
use Rattle.nomos_ir.specs.declared.code_node.Chan.TheVariants as chan
use Rattle.nomos_ir.specs.declared.ids.CodeId.{CodeId}
use Rattle.nomos_ir.specs.declared.ids.VarId.{VarId}
use Rattle.nomos_types.specs.Acceptance.{Acceptance}
use Rattle.nomos_machine.specs.Change.{Change}
use Rattle.nomos_machine.specs.Deeds.{changes, receives, takes, hears_end, label_in, channel_in, value_in, potential_in, close_in, arm_for}
use Rattle.nomos_machine.specs.Optional.{◌>>=◌}
use Rattle.nomos_machine.specs.Revised.{standing_at, under_name, with_channel, without_channel, with_value}
use Rattle.nomos_machine.specs.Sight.{message_on}
use Rattle.nomos_machine.specs.State.{State, process_at}
use Rattle.nomos_machine.specs.declared.object.Message.{Message}
use Rattle.nomos_machine.specs.declared.object.Payload.{Payload}
use Rattle.nomos_machine.specs.declared.object.Payload.TheVariants as payload
use Rattle.nomos_machine.specs.declared.object.Process.{Process}
use Rattle.nomos_machine.proofs.PutLaws.{InOrder}
use Rattle.nomos_deeds.specs.Acts.{doing_deed, message_at, read_by, received_change, taken}
use Rattle.nomos_deeds.specs.SeenObjects.{seen_message, seen_payload, seen_label, seen_channel, brings_value, brings_potential}
use Rattle.nomos_deeds.specs.declared.act.Doing.{Doing}
use Rattle.nomos_deeds.specs.declared.act.Into.{Into}
use Rattle.nomos_deeds.specs.declared.act.Into.TheVariants as into
use Rattle.nomos_deeds.specs.declared.sight.SeenMessage.{SeenMessage}
use Rattle.nomos_deeds.specs.declared.sight.SeenPayload.{SeenPayload}
use Rattle.nomos_deeds.proofs.SightLemmas.{read-seen, receives-read}

-- what the code answers of a message, as it says of itself
abbrev pub Answers : Chan → Into → SeenMessage → Option CodeId → Option Doing → Type 0
Answers c where_to message next answer =
    (a : Acceptance) (s : State) (p : Process) (vs : List Value) (m : Message) → message ≡ seen_message m
    → message_at s.objects m.number ≡ Some m
    → doing_deed a s p vs answer
    ≡ option_map changes (option_and_then (received_change a s p vs m c where_to) next)

-- The reads of an instruction are those of the act: for each payload the same is taken, and the process goes on where
-- the code found.
abbrev pub SameReads : (Payload → Process → Option Process) → Into → (SeenPayload → Option CodeId) → Type 0
SameReads reads where_to goes =
    (brought : Payload) (q : Process)
    → reads brought q ≡ option_and_then (λ next. taken where_to brought q >>= λ r. Some (standing_at next r))
    (goes (seen_payload brought))

module _ (s : State) (pid : ℕ) (c : Chan) (where_to : Into) (reads : Payload → Process → Option Process)
    (goes : SeenPayload → Option CodeId) (same : SameReads reads where_to goes) where
  of_name : (a : Acceptance) (p : Process) (vs : List Value) (m : Message) (name : Option ℕ) (next : Option CodeId)
      → ((q : Process) → reads m.payload q
      ≡ option_and_then (λ next. taken where_to m.payload q >>= λ r. Some (standing_at next r)) next)
      → option_and_then (λ (next : CodeId). name >>= λ name. taken where_to m.payload (under_name c name p) >>= λ q.
      Some (takes a s p m (standing_at next q))) next
      ≡ (name >>= λ name. reads m.payload (under_name c name p) >>= λ q. Some (takes a s p m q))
  of_name a p vs m (Some name) (Some next) are =
      at (taken where_to m.payload (under_name c name p)) (are (under_name c name p))
    where
      at : (o : Option Process) → reads m.payload (under_name c name p) ≡ (o >>= λ r. Some (standing_at next r))
          → (o >>= λ q. Some (takes a s p m (standing_at next q)))
          ≡ (reads m.payload (under_name c name p) >>= λ q. Some (takes a s p m q))
      at (Some r) is = sym (ap (λ (o : Option Process). o >>= λ q. Some (takes a s p m q)) is)
      at None is = sym (ap (λ (o : Option Process). o >>= λ q. Some (takes a s p m q)) is)
  of_name a p vs m (Some name) None are =
      sym (ap (λ (o : Option Process). o >>= λ q. Some (takes a s p m q)) (are (under_name c name p)))
  of_name a p vs m None (Some next) are = refl
  of_name a p vs m None None are = refl

  -- so what is answered of the message that is seen is what the instruction does
  pub answered : (message : SeenMessage) (next : Option CodeId) (answer : Option Doing) → InOrder s.objects
      → ((p : Process) → process_at s pid ≡ Some p → Some message ≡ option_map seen_message (read_by s p c))
      → next ≡ goes message.brings → Answers c where_to message next answer
      → (a : Acceptance) (p : Process) (vs : List Value) → process_at s pid ≡ Some p
      → doing_deed a s p vs answer ≡ option_map changes (receives a s p c reads)
  answered message next answer order read found answers a p vs there =
      let is = read-seen s p c message order (read p there) in
      let goes_on : next ≡ goes (seen_payload is.m.payload) =
      found ∙ ap (λ (e : SeenMessage). goes e.brings) is.seen
      in
      answers a s p vs is.m is.seen is.stands
      ∙ ap (option_map changes)
      (of_name a p vs is.m is.m.next next
      (λ q. same is.m.payload q
      ∙ ap (option_and_then (λ next. taken where_to is.m.payload q >>= λ r. Some (standing_at next r))) (sym goes_on))
      ∙ sym (receives-read a s p c reads is.m is.read))

-- ---- each instruction

pub case-same : (arms : List Arm)
    → SameReads (λ brought q. label_in brought >>= arm_for arms >>= λ next. Some (standing_at next q)) into.Nothing
    (λ brings. option_and_then (arm_for arms) (seen_label brings))
case-same arms (payload.Label l) q = at (arm_for arms l)
  where
    at : (o : Option CodeId)
        → (o >>= λ next. Some (standing_at next q)) ≡ option_and_then (λ next. Some (standing_at next q)) o
    at (Some next) = refl
    at None = refl
case-same arms (payload.Value x) q = refl
case-same arms (payload.Channel name) q = refl
case-same arms payload.Pay q = refl
case-same arms payload.Close q = refl

pub recv-same : (y : VarId) (next : CodeId)
    → SameReads (λ brought q. channel_in brought >>= λ name. Some (standing_at next (with_channel y name q)))
    (into.Channel y) (λ brings. option_map (λ name. next) (seen_channel brings))
recv-same y next (payload.Label l) q = refl
recv-same y next (payload.Value x) q = refl
recv-same y next (payload.Channel name) q = refl
recv-same y next payload.Pay q = refl
recv-same y next payload.Close q = refl

pub take-same : (v : VarId) (next : CodeId)
    → SameReads (λ brought q. value_in brought >>= λ x. Some (standing_at next (with_value v x q))) (into.Value v)
    (λ brings. cond (brings_value brings) (Some next) None)
take-same v next (payload.Label l) q = refl
take-same v next (payload.Value x) q = refl
take-same v next (payload.Channel name) q = refl
take-same v next payload.Pay q = refl
take-same v next payload.Close q = refl

pub get-same : (next : CodeId)
    → SameReads (λ brought q. potential_in brought >>= λ _. Some (standing_at next q)) into.Nothing
    (λ brings. cond (brings_potential brings) (Some next) None)
get-same next (payload.Label l) q = refl
get-same next (payload.Value x) q = refl
get-same next (payload.Channel name) q = refl
get-same next payload.Pay q = refl
get-same next payload.Close q = refl

-- the end of a talk
pub wait-answered : (s : State) (pid : ℕ) (v : VarId) (next : CodeId) (message : SeenMessage) (answer : Option Doing)
    → InOrder s.objects
    → ((p : Process) → process_at s pid ≡ Some p → Some message ≡ option_map seen_message (read_by s p (chan.Var v)))
    → ((a : Acceptance) (s : State) (p : Process) (vs : List Value) (m : Message) → message ≡ seen_message m
    → message_at s.objects m.number ≡ Some m
    → doing_deed a s p vs answer ≡ option_map changes (option_and_then (λ over.
    Some (takes a s p m (standing_at next (without_channel v p)))) (close_in m.payload)))
    → (a : Acceptance) (p : Process) (vs : List Value) → process_at s pid ≡ Some p
    → doing_deed a s p vs answer ≡ option_map changes (hears_end a s p v next)
wait-answered s pid v next message answer order read answers a p vs there =
    let is = read-seen s p (chan.Var v) message order (read p there) in
    answers a s p vs is.m is.seen is.stands ∙ ap (option_map changes) (sym (at (bound_to v.0 p.channels) is.m is.read))
  where
    goes : Message → Option Change
    goes m = close_in m.payload >>= λ _. Some (takes a s p m (standing_at next (without_channel v p)))

    at : (o : Option ℕ) (m : Message) → (o >>= message_on s.objects true) ≡ Some m
        → (o >>= λ from. message_on s.objects true from >>= goes) ≡ goes m
    at (Some name) m found = ap (λ (o : Option Message). o >>= goes) found
    at None m found = absurd cc
