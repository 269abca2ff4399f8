-- Whatever is said, heard and fired: a talk stays one.
use Rattle.std.proofs.Common.{◌≡◌, ◌∙◌, ◌<◌, ◌^◌, ℕ, Bool, true, List, length, Option, Some, None, IsSome, refl, sym, subst, ap, arith, slice_get}
use Rattle.std.proofs.lemmas.List.Elements.{All-contains}
use Rattle.nomos_ir.specs.declared.ids.TypeId.{TypeId}
use Rattle.nomos_ir.specs.declared.type_node.TypeNode.{TypeNode}
use Rattle.nomos_types.specs.Acceptance.{Acceptance, IsAccepted}
use Rattle.nomos_types.proofs.EqualityLaws.{equal-back}
use Rattle.nomos_machine.specs.Change.{changed}
use Rattle.nomos_machine.specs.Hearing.{Hears, heard_message, heard_of, hears}
use Rattle.nomos_machine.specs.Opening.{OpensTalk, opened_talk}
use Rattle.nomos_machine.specs.OutsideTalk.{TalksTo, done, says as then_says, hears as then_hears, fires as then_fires}
use Rattle.nomos_machine.specs.Saying.{Says, brought, says}
use Rattle.nomos_machine.specs.State.{State, type_of, gas_of}
use Rattle.nomos_machine.specs.Step.{step}
use Rattle.nomos_machine.specs.TypedMessage.{Brings, GoesOnAt, MessageTyped, own_channel}
use Rattle.nomos_machine.specs.TypedState.{IsTyped, ObjectTyped}
use Rattle.nomos_machine.specs.declared.object.Heard.{Heard}
use Rattle.nomos_machine.specs.declared.object.Message.{Message}
use Rattle.nomos_machine.specs.declared.object.Object.TheVariants as object
use Rattle.nomos_machine.specs.declared.object.Payload.{Payload}
use Rattle.nomos_machine.specs.declared.object.Payload.TheVariants as payload
use Rattle.nomos_machine.specs.declared.object.Said.{Said}
use Rattle.nomos_machine.proofs.AwaitLaws.{awaits-brings}
use Rattle.nomos_machine.proofs.HearingLaws.{heard-carries_none, heard-name, heard-none, heard_message-typed, message-read_outside}
use Rattle.nomos_machine.proofs.LifeLaws.{changed-keeps_types, one-type}
use Rattle.nomos_machine.proofs.OpeningLaws.{opens-name, opens-type}
use Rattle.nomos_machine.proofs.OutsideTalkLaws.{GoesOnOutside, fires-party, hears-party, opens-party, says-party}
use Rattle.nomos_machine.proofs.SayingLaws.{said-name, said-type}
use Rattle.nomos_machine.proofs.TalkLaws.{brings-continues}
use Rattle.nomos_equality.specs.Carriers.{IsCarrier, CarriesNothing}
use Rattle.nomos_equality.proofs.CarryLaws.{carries-continues, carries-here, carries-nothing-equal}
use Rattle.nomos_monitor.specs.Talks.{IsTalk, SpeaksAlone}
use Rattle.nomos_monitor.proofs.SilentLaws.{step-alone}

one-number : {m n : ℕ} → Some m ≡ Some n → m ≡ n
one-number is = cc

the-type : {x y : TypeId} → Some x ≡ Some y → x ≡ y
the-type is = cc

module _ {a : Acceptance} (accepted : IsAccepted a) {account : ℕ} where
  -- where what comes of a state has an outside party and nothing is sent on the name, it is a talk
  goes-talk : (s t : State) → gas_of s < 2 ^ 96 → GoesOnOutside a account s t → SpeaksAlone a t → IsTalk a t account
  goes-talk s t gas goes alone = record {
    party = goes.has;
    alone = alone;
    gas = omega (arith, goes.gas, gas);
  }

  -- ---- what is opened

  pub opens-talk : (s t : State) (number : ℕ) → IsTyped a s → gas_of s < 2 ^ 96
      → (h : OpensTalk a s number account t) → CarriesNothing a.program h.can.declaration.offers → IsTalk a t account
  opens-talk s t number typed gas h silent =
      goes-talk s t gas (opens-party accepted typed number h)
      (subst (SpeaksAlone a) (sym h.after) (λ name own outside found.
      let is_next : s.next_name ≡ name =
      one-number (sym (opens-name accepted typed number account h.can) ∙ outside) in
      let its : type_of (opened_talk a s h.can.declaration account).types name ≡ Some h.can.declaration.offers =
      subst (λ (n : ℕ). type_of (opened_talk a s h.can.declaration account).types n ≡ Some h.can.declaration.offers)
      is_next (opens-type accepted typed number account h.can) in
      subst (CarriesNothing a.program) (the-type (sym its ∙ found)) silent))

  -- ---- what is said

  pub says-talk : (s t : State) (what : Said) → IsTalk a s account → Says a s account what t → IsTalk a t account
  says-talk s t what talk h =
      let typed = talk.party.typed in
      let on = h.may.on in
      let after : State = changed s (says s h.may.name (brought what) h.goes account h.gas) in
      let silent : CarriesNothing a.program h.goes =
      carries-continues on.head (talk.alone h.may.name on.own h.may.outside on.found) on.unfolds
      (brings-continues (awaits-brings s.types on.awaits)) in
      goes-talk s t talk.gas (says-party accepted s t what talk.party h)
      (subst (SpeaksAlone a) (sym h.after) (λ name own outside found.
      let is_next : s.next_name ≡ name =
      one-number (sym (said-name accepted typed what h.gas h.goes h.may account) ∙ outside) in
      let its : type_of after.types name ≡ Some h.goes =
      subst (λ (n : ℕ). type_of after.types n ≡ Some h.goes) is_next
      (said-type accepted typed what h.gas h.goes h.may account) in
      subst (CarriesNothing a.program) (the-type (sym its ∙ found)) silent))

  -- ---- what is heard

  module _ {s : State} (talk : IsTalk a s account) (h : (what : Heard) × (t : State) × Hears s account what t) where
    abbrev hearing : Hears s account h.0 h.1
    hearing = h.2

    abbrev m : Message
    m = hearing.message

    heard-alone : SpeaksAlone a (changed s (hears s m account))
    heard-alone name own outside found = by_next m.next refl
      where
        typed : IsTyped a s
        typed = talk.party.typed

        message : MessageTyped a s.types m
        message =
            heard_message-typed accepted typed m (message-read_outside s m hearing.there)
            (heard-carries_none m.payload m.purse h.0 hearing.is) account

        before : CarriesNothing a.program message.own
        before = talk.alone m.from message.own (message-read_outside s m hearing.there).outside message.found

        by_goes : (k : ℕ) (goes : Option TypeId)
            → Brings a.program a.annotations s.types m.to_client message.head m.payload m.purse goes
            → GoesOnAt a.program a.annotations s.types (Some k) goes → k ≡ name → CarriesNothing a.program own
        by_goes k None brings on same = absurd on
        by_goes k (Some u) brings on same =
            let at_u = carries-continues message.head before message.unfolds (brings-continues brings) in
            let equal = equal-back a.program a.annotations on.own u on.alike.equal in
            let at_k = carries-nothing-equal accepted.typed.formed.program a.annotations equal at_u in
            let its : type_of s.types name ≡ Some on.own =
            subst (λ (n : ℕ). type_of s.types n ≡ Some on.own) same on.found in
            subst (CarriesNothing a.program)
            (one-type typed (changed-keeps_types s (hears s m account)) name on.own own its found) at_k

        by_next : (next : Option ℕ) → m.next ≡ next → CarriesNothing a.program own
        by_next None is =
            let none = heard-none accepted typed m (message-read_outside s m hearing.there)
            (heard-carries_none m.payload m.purse h.0 hearing.is) account talk.party.few is in
            let nothing : None ≡ Some name = sym (ap (λ (names : List ℕ). slice_get names 0) none) ∙ outside in
            absurd cc
        by_next (Some k) is =
            by_goes k message.goes message.brings
            (subst (λ (o : Option ℕ). GoesOnAt a.program a.annotations s.types o message.goes) is message.next)
            (one-number (sym (heard-name accepted typed m (message-read_outside s m hearing.there)
            (heard-carries_none m.payload m.purse h.0 hearing.is) account k is) ∙ outside))

  pub hears-talk : (s t : State) (what : Heard) → IsTalk a s account → Hears s account what t → IsTalk a t account
  hears-talk s t what talk h =
      goes-talk s t talk.gas (hears-party accepted s t what talk.party h)
      (subst (SpeaksAlone a) (sym h.after) (heard-alone talk (what, t, h)))

  -- each message to the outside party can be heard: it brings no channel
  pub message-hearable : (s : State) → IsTalk a s account → (m : Message) → heard_message s ≡ Some m
      → IsSome (heard_of m.payload m.purse)
  message-hearable s talk m there =
      let reads = message-read_outside s m there in
      let message : MessageTyped a s.types m =
      All-contains (ObjectTyped a s.types (length s.balances)) s.objects (object.Message m) talk.party.typed.each
      reads.reads.waiting in
      let silent = talk.alone m.from message.own reads.outside message.found in
      by_payload m.payload m.purse message.goes (carries-here message.head silent message.unfolds)
      (subst (λ (way : Bool). Brings a.program a.annotations s.types way message.head m.payload m.purse message.goes)
      reads.reads.goes_way message.brings)
    where
      by_payload : {head : TypeNode} (p : Payload) (gas : ℕ) (goes : Option TypeId) → ¬ (IsCarrier head)
          → Brings a.program a.annotations s.types true head p gas goes → IsSome (heard_of p gas)
      by_payload (payload.Label l) gas goes none brings = refl
      by_payload (payload.Value v) gas goes none brings = refl
      by_payload (payload.Channel name) _ _ none (own_channel sent t _ is) = absurd (none tt)
      by_payload payload.Pay gas goes none brings = refl
      by_payload payload.Close gas goes none brings = refl

  -- ---- what is fired

  pub fires-talk : (s t : State) (pid : ℕ) → IsTalk a s account → step a s pid ≡ Some t → IsTalk a t account
  fires-talk s t pid talk steps =
      goes-talk s t talk.gas (fires-party accepted s t pid talk.party steps)
      (step-alone accepted talk.party.typed talk.alone pid t steps)

  -- ---- the whole

  -- whatever is said, heard and fired, in any order: it is a talk again
  pub talk-stays : (closed : Bool) (s t : State) → IsTalk a s account → TalksTo a account closed s t
      → IsTalk a t account
  talk-stays _ s _ talk (done _) = talk
  talk-stays closed s u talk (then_says _ _ t _ what h rest) =
      talk-stays closed t u (says-talk s t what talk h) rest
  talk-stays _ s u talk (then_hears closed _ t _ what h rest) =
      talk-stays closed t u (hears-talk s t what talk h) rest
  talk-stays closed s u talk (then_fires _ _ t _ pid steps rest) =
      talk-stays closed t u (fires-talk s t pid talk steps) rest
