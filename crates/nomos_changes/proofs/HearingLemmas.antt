-- What an outside party hears, as the small changes that it is made of.
use Rattle.std.proofs.Common.{◌≡◌, ◌∙◌, ◌≤◌, ◌<◌, ◌+◌, ◌^◌, ℕ, true, List, [], ◌∷◌, length, Option, Some, None, IsSome, slice_get, slice_index, sym, ap, subst, refl, arith, append-nil, eq-eqb, not, cond, Bool}
use Rattle.std.specs.Option.{option_map}
use Rattle.std.proofs.lemmas.List.Elements.{All-contains}
use Rattle.nomos_ir.specs.Value.{Value}
use Rattle.nomos_ir.specs.declared.ids.Label.{Label}
use Rattle.nomos_types.specs.Acceptance.{Acceptance, IsAccepted}
use Rattle.nomos_deeds.specs.Acts.{message_at}
use Rattle.nomos_deeds.specs.SeenObjects.{seen_message, seen_payload}
use Rattle.nomos_deeds.specs.declared.sight.SeenMessage.{SeenMessage}
use Rattle.nomos_deeds.specs.declared.sight.SeenPayload.TheVariants as shown
use Rattle.nomos_machine.specs.Change.{changed, made, paid_in, put_at, tidied}
use Rattle.nomos_machine.specs.Deeds.{value_in}
use Rattle.nomos_machine.specs.Hearing.{Hears, IsHearable, heard_message, heard_names, heard_of, hears}
use Rattle.nomos_machine.specs.Objects.{message_of}
use Rattle.nomos_machine.specs.Opening.{outside_name}
use Rattle.nomos_machine.specs.Optional.{◌>>=◌}
use Rattle.nomos_machine.specs.Sight.{message_on}
use Rattle.nomos_machine.specs.State.{State, gas_of}
use Rattle.nomos_machine.specs.TypedState.{IsTyped, ObjectTyped}
use Rattle.nomos_machine.specs.declared.object.Heard.{Heard}
use Rattle.nomos_machine.specs.declared.object.Heard.TheVariants as heard
use Rattle.nomos_machine.specs.declared.object.Message.{Message}
use Rattle.nomos_machine.specs.declared.object.Object.{Object}
use Rattle.nomos_machine.specs.declared.object.Object.TheVariants as object
use Rattle.nomos_machine.specs.declared.object.Payload.{Payload}
use Rattle.nomos_machine.specs.declared.object.Payload.TheVariants as payload
use Rattle.nomos_machine.proofs.GasLaws.{paid_out-sum}
use Rattle.nomos_machine.proofs.HearingLaws.{heard-carries_none, heard-typed, message-read_outside}
use Rattle.nomos_machine.proofs.MessageLaws.{message_on-found}
use Rattle.nomos_machine.proofs.PurseLaws.{purse-small}
use Rattle.nomos_machine.proofs.PutLaws.{object_at-own}
use Rattle.nomos_changes.specs.Hearings.{IsThere, heard_at}
use Rattle.nomos_changes.specs.SmallChanges.{value_brought, without_object}
use Rattle.nomos_changes.proofs.MadeLemmas.{one-some, same-state}
use Rattle.nomos_changes.proofs.SendActLemmas.{message-found, purse-in}

-- ---- what is heard of the message that is there

module _ {s : State} {name : ℕ} {seen : SeenMessage} (there : IsThere s name seen) where
  abbrev m : Message
  m = there.message

  read-there : heard_at s.objects seen.number ≡ heard_of m.payload m.purse
  read-there = ap (λ (o : Option Message). o >>= λ m. heard_of m.payload m.purse) there.found

  brings-there : seen.brings ≡ seen_payload m.payload
  brings-there = ap (λ (x : SeenMessage). x.brings) there.is

  value-there : value_brought s.objects seen.number ≡ value_in m.payload
  value-there = ap (λ (o : Option Message). o >>= λ m. value_in m.payload) there.found

  pub label-heard : (l : Label) → seen.brings ≡ shown.Label l → heard_at s.objects seen.number ≡ Some (heard.Label l)
  label-heard l is = read-there ∙ at m.payload (sym brings-there ∙ is)
    where
      at : (p : Payload) → seen_payload p ≡ shown.Label l → heard_of p m.purse ≡ Some (heard.Label l)
      at (payload.Label k) e =
          let same : k ≡ l = cc in
          ap (λ (x : Label). Some (heard.Label x)) same
      at (payload.Value v) e = absurd cc
      at (payload.Channel n) e = absurd cc
      at payload.Pay e = absurd cc
      at payload.Close e = absurd cc

  pub value-heard : (x : Value) → seen.brings ≡ shown.Value → Some x ≡ value_brought s.objects seen.number
      → heard_at s.objects seen.number ≡ Some (heard.Value x)
  value-heard x is told = read-there ∙ at m.payload (sym brings-there ∙ is) (told ∙ value-there)
    where
      at : (p : Payload) → seen_payload p ≡ shown.Value → Some x ≡ value_in p
          → heard_of p m.purse ≡ Some (heard.Value x)
      at (payload.Value v) e told = ap (λ (y : Value). Some (heard.Value y)) (sym (one-some x v told))
      at (payload.Label k) e told = absurd cc
      at (payload.Channel n) e told = absurd cc
      at payload.Pay e told = absurd cc
      at payload.Close e told = absurd cc

  pub some-value : seen.brings ≡ shown.Value → None ≡ value_brought s.objects seen.number → ⊥
  some-value is told = at m.payload (sym brings-there ∙ is) (told ∙ value-there)
    where
      at : (p : Payload) → seen_payload p ≡ shown.Value → None ≡ value_in p → ⊥
      at (payload.Value v) e told = absurd cc
      at (payload.Label k) e told = absurd cc
      at (payload.Channel n) e told = absurd cc
      at payload.Pay e told = absurd cc
      at payload.Close e told = absurd cc

  pub no-channel : (n : ℕ) → seen.brings ≡ shown.Channel n → ⊥
  no-channel n is = at m.payload (sym brings-there ∙ is) there.heard
    where
      at : (p : Payload) → seen_payload p ≡ shown.Channel n → IsSome (heard_of p m.purse) → ⊥
      at (payload.Channel k) e some = absurd cc
      at (payload.Value v) e some = absurd cc
      at (payload.Label k) e some = absurd cc
      at payload.Pay e some = absurd cc
      at payload.Close e some = absurd cc

  pub pay-heard : (purse : ℕ) → seen.brings ≡ shown.Pay → purse ≡ m.purse
      → heard_at s.objects seen.number ≡ Some (heard.Paid purse)
  pay-heard purse is purse_is = read-there ∙ at m.payload (sym brings-there ∙ is)
    where
      at : (p : Payload) → seen_payload p ≡ shown.Pay → heard_of p m.purse ≡ Some (heard.Paid purse)
      at payload.Pay e = ap (λ (n : ℕ). Some (heard.Paid n)) (sym purse_is)
      at (payload.Value v) e = absurd cc
      at (payload.Label k) e = absurd cc
      at (payload.Channel n) e = absurd cc
      at payload.Close e = absurd cc

  pub close-heard : seen.brings ≡ shown.Close → heard_at s.objects seen.number ≡ Some heard.Closed
  close-heard is = read-there ∙ at m.payload (sym brings-there ∙ is)
    where
      at : (p : Payload) → seen_payload p ≡ shown.Close → heard_of p m.purse ≡ Some heard.Closed
      at payload.Close e = refl
      at (payload.Value v) e = absurd cc
      at (payload.Label k) e = absurd cc
      at (payload.Channel n) e = absurd cc
      at payload.Pay e = absurd cc

-- ---- the small changes

-- where a talk ends nobody is outside any more
pub gone-inside : (name : ℕ) (names : List ℕ) → names ≡ name ∷ [] → heard_names name None names ≡ []
gone-inside name names alone =
    ap (λ (ns : List ℕ). heard_names name None ns) alone
    ∙ ap (λ (b : Bool). cond (not b) (name ∷ []) []) (eq-eqb name name refl)

-- what an account has and what the message carries fit together
pub paid-fits : (s left : State) (number account purse : ℕ) (m : Message) → gas_of s < 2 ^ 96
    → account < length s.balances → message_at s.objects number ≡ Some m → purse ≡ m.purse
    → left ≡ without_object number s → slice_index left.balances account + purse < 2 ^ 128
paid-fits s left number account purse m gas within found purse_is is =
    let has = paid_out-sum (Some (account, slice_index s.balances account)) s.balances (within, omega arith) in
    let carries = purse-in s number (object.Message m) (message-found s.objects number m found) in
    let same : slice_index left.balances account ≡ slice_index s.balances account =
    ap (λ (t : State). slice_index t.balances account) is in
    omega (arith, has, carries, same, purse_is, gas)

abbrev with_got : ℕ → ℕ → State → State
with_got account gas s = record s { balances = paid_in (Some (account, gas)) s.balances }

abbrev going_on : ℕ → Option ℕ → State → State
going_on name next s = record s { outside = heard_names name next s.outside }

heard-is : (s : State) (m : Message) (account : ℕ)
    → tidied (going_on m.from m.next (with_got account m.purse (without_object m.number s)))
    ≡ changed s (hears s m account)
heard-is s m account =
    ap tidied (same-state (going_on m.from m.next (with_got account m.purse (without_object m.number s)))
    (made s (hears s m account))
    (sym (append-nil (put_at m.number None s.objects))) (omega arith) (omega arith) (sym (append-nil s.types)) refl
    (omega arith) (sym (append-nil s.results)) refl)

-- a message left, the account got what it carried, and the outside name went on or is gone
pub listened-is : (s left paid gone u : State) (m : Message) (number purse name account : ℕ) (next : Option ℕ)
    → number ≡ m.number → purse ≡ m.purse → name ≡ m.from → next ≡ m.next → left ≡ without_object number s
    → paid ≡ with_got account purse left → gone ≡ going_on name next paid → u ≡ tidied gone
    → u ≡ changed s (hears s m account)
listened-is s left paid gone u m number purse name account next number_is purse_is name_is next_is left_is paid_is
    gone_is
    after =
    let first : left ≡ without_object m.number s =
    left_is ∙ ap (λ (n : ℕ). without_object n s) number_is in
    let second : paid ≡ with_got account m.purse (without_object m.number s) =
    paid_is ∙ ap (with_got account purse) first
    ∙ ap (λ (n : ℕ). with_got account n (without_object m.number s)) purse_is in
    let third : gone ≡ going_on m.from m.next (with_got account m.purse (without_object m.number s)) =
    gone_is ∙ ap (going_on name next) second
    ∙ ap (λ (n : ℕ). going_on n next (with_got account m.purse (without_object m.number s))) name_is
    ∙ ap (λ (o : Option ℕ). going_on m.from o (with_got account m.purse (without_object m.number s))) next_is
    in
    after ∙ ap tidied third ∙ heard-is s m account

-- ---- the message that is there

-- the message that is seen so is there, and is the one that is heard
pub record IsFound (s : State) (name : ℕ) (seen : SeenMessage) : Type 0 where
  pub there : IsThere s name seen
  pub heard : heard_message s ≡ Some there.message

module _ {a : Acceptance} (accepted : IsAccepted a) {s : State} (typed : IsTyped a s) (name : ℕ)
    (outside : Some name ≡ outside_name s) where
  heard-on : heard_message s ≡ message_on s.objects true name
  heard-on = ap (λ (o : Option ℕ). o >>= message_on s.objects true) (sym outside)

  pub nothing-there : None ≡ option_map seen_message (message_on s.objects true name) → heard_message s ≡ None
  nothing-there told = heard-on ∙ at (message_on s.objects true name) told
    where
      at : (o : Option Message) → None ≡ option_map seen_message o → o ≡ None
      at None told = refl
      at (Some m) told = absurd cc

  alone-outside : length s.outside ≤ 1 → s.outside ≡ name ∷ []
  alone-outside few = at s.outside few outside
    where
      at : (names : List ℕ) → length names ≤ 1 → Some name ≡ slice_get names 0 → names ≡ name ∷ []
      at [] few is = absurd cc
      at (n ∷ []) few is = ap (λ (k : ℕ). k ∷ []) (sym (one-some name n is))
      at (n ∷ k ∷ rest) few is = absurd (omega (arith, few))

  found-there : length s.outside ≤ 1 → IsHearable s → (seen : SeenMessage) (m : Message)
      → message_on s.objects true name ≡ Some m → seen ≡ seen_message m → IsFound s name seen
  found-there few hearable seen m is seen_is =
      let reads = message_on-found true name m s.objects is in
      let is_heard : heard_message s ≡ Some m = heard-on ∙ is in
      let own : message_at s.objects m.number ≡ Some m =
      ap (λ (o : Option Object). o >>= message_of)
      (object_at-own (object.Message m) s.objects typed.numbered.ascending reads.waiting) in
      let there : IsThere s name seen = record {
        message = m;
        found = ap (λ (x : SeenMessage). message_at s.objects x.number) seen_is ∙ own;
        is = seen_is;
        read = reads.read;
        alone = alone-outside few;
        heard = hearable m is_heard;
        small = purse-small accepted
            (All-contains (ObjectTyped a s.types (length s.balances)) s.objects (object.Message m) typed.each
            reads.waiting);
      } in
      record { there = there; heard = is_heard }

  pub seen-found : length s.outside ≤ 1 → IsHearable s → (seen : SeenMessage)
      → Some seen ≡ option_map seen_message (message_on s.objects true name) → IsFound s name seen
  seen-found few hearable seen told = at (message_on s.objects true name) refl told
    where
      at : (o : Option Message) → message_on s.objects true name ≡ o → Some seen ≡ option_map seen_message o
          → IsFound s name seen
      at (Some m) is told = found-there few hearable seen m is (one-some seen (seen_message m) told)
      at None is told = absurd cc

  -- where it is heard, the state is typed then
  pub heard-so : (seen : SeenMessage) (found : IsFound s name seen) (what : Heard) (account : ℕ) (u : State)
      → heard_at s.objects seen.number ≡ Some what → u ≡ changed s (hears s found.there.message account)
      → Hears s account what u
  heard-so seen found what account u told after = record {
    message = found.there.message;
    there = found.heard;
    is = sym (read-there found.there) ∙ told;
    after = after;
  }

  pub hearing-typed : (what : Heard) (account : ℕ) (u : State) → Hears s account what u → IsTyped a u
  hearing-typed what account u h =
      let reads = message-read_outside s h.message h.there in
      let silent = heard-carries_none h.message.payload h.message.purse what h.is in
      subst (IsTyped a) (sym h.after) (heard-typed accepted typed h.message reads silent account)
