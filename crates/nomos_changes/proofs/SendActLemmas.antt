-- Acts that send and take in messages, as changes.
use Rattle.std.proofs.Common.{◌≡◌, ◌∙◌, ℕ, ◌≤◌, ◌<◌, ◌+◌, ◌^◌, true, false, List, [], ◌∷◌, ◌++◌, Option, Some, None, sym, ap, refl, arith, append-nil}
use Rattle.nomos_ir.specs.Value.{Value}
use Rattle.nomos_ir.specs.declared.code_node.Chan.{Chan}
use Rattle.nomos_ir.specs.declared.ids.CodeId.{CodeId}
use Rattle.nomos_ir.specs.declared.ids.TypeId.{TypeId}
use Rattle.nomos_ir.specs.declared.ids.VarId.{VarId}
use Rattle.nomos_machine.proofs.PreservationLaws.{process-found}
use Rattle.nomos_types.specs.Acceptance.{Acceptance}
use Rattle.nomos_deeds.specs.Acts.{act_change, message_at, received_change, sending_change, taken}
use Rattle.nomos_deeds.specs.declared.act.Act.TheVariants as act
use Rattle.nomos_deeds.specs.declared.act.Into.{Into}
use Rattle.nomos_deeds.specs.declared.act.Sending.{Sending}
use Rattle.nomos_deeds.specs.declared.act.Sending.TheVariants as sending
use Rattle.nomos_machine.specs.Change.{Change, made, put_at}
use Rattle.nomos_machine.specs.Deeds.{alone, one_of, sends, takes}
use Rattle.nomos_machine.specs.Objects.{object_at, message_of, purse_of}
use Rattle.nomos_machine.specs.Optional.{◌>>=◌}
use Rattle.nomos_machine.specs.Revised.{richer, standing_at, under_name, without_channel}
use Rattle.nomos_machine.specs.Sight.{is_own, present_name}
use Rattle.nomos_machine.specs.State.{State, gas_of, process_at}
use Rattle.nomos_machine.specs.declared.object.Message.{Message}
use Rattle.nomos_machine.specs.declared.object.Object.{Object}
use Rattle.nomos_machine.specs.declared.object.Object.TheVariants as object
use Rattle.nomos_machine.specs.declared.object.Payload.{Payload}
use Rattle.nomos_machine.specs.declared.object.Payload.TheVariants as payload
use Rattle.nomos_machine.specs.declared.object.Process.{Process}
use Rattle.nomos_machine.proofs.PutLaws.{object_at-found, put-weight}
use Rattle.nomos_changes.specs.Sendings.{after_sending, brought_by, gas_of_sending, message_sent, with_sent}
use Rattle.nomos_changes.specs.SmallChanges.{with_name, with_object, with_process, without_object}
use Rattle.nomos_changes.proofs.BehindLemmas.{becomes-before}
use Rattle.nomos_changes.proofs.MadeLemmas.{one-some, same-state}

-- ---- purses

-- what an object carries is part of all gas
pub purse-in : (s : State) (n : ℕ) (o : Object) → object_at s.objects n ≡ Some o → purse_of o ≤ gas_of s
purse-in s n o found =
    let number = (object_at-found n o s.objects found).0 in
    let weight = put-weight purse_of None o s.objects (ap (object_at s.objects) number ∙ found) in
    omega (arith, weight)

pub message-found : (objects : List Object) (n : ℕ) (m : Message) → message_at objects n ≡ Some m
    → object_at objects n ≡ Some (object.Message m)
message-found objects n m found = at (object_at objects n) refl found
  where
    at : (o : Option Object) → object_at objects n ≡ o → (o >>= message_of) ≡ Some m
        → object_at objects n ≡ Some (object.Message m)
    at (Some (object.Message g)) there is = there ∙ ap (λ (g : Message). Some (object.Message g)) (one-some g m is)
    at (Some (object.Process p)) there is = absurd cc
    at None there is = absurd cc

-- what a process and a message carry fits together
pub purses-fit : (s : State) (pid number : ℕ) (p : Process) (m : Message) → gas_of s < 2 ^ 96
    → process_at s pid ≡ Some p
    → message_at s.objects number ≡ Some m → p.purse + m.purse < 2 ^ 128
purses-fit s pid number p m gas there found =
    omega (
      arith,
      gas,
      purse-in s pid (object.Process p) (process-found (object_at s.objects pid) p there),
      purse-in s number (object.Message m) (message-found s.objects number m found),
    )

-- ---- sends

module _ (a : Acceptance) (s : State) (p : Process) (c : Chan) (goes : TypeId) (next : CodeId) where
  abbrev pub sent_change : Payload → ℕ → Process → ℕ → Change
  sent_change brought gas q from = record (alone a s p (standing_at next (under_name c s.next_name q))) {
    comes = Some (object.Message (message_sent s (is_own c) from brought gas));
    next_type = Some goes;
  }

  pub record IsSent (what : Sending) (vs : List Value) (change : Change) : Type 0 where
    pub brought : Payload
    pub brings : brought_by what vs ≡ Some brought
    pub from : ℕ
    pub named : present_name p c ≡ Some from
    pub is : change ≡ sent_change brought (gas_of_sending what) (after_sending what p) from

  sends-is : (what : Sending) (vs : List Value) (change : Change) (brought : Payload) (gas : ℕ) (q : Process)
      → brought_by what vs ≡ Some brought → gas_of_sending what ≡ gas → after_sending what p ≡ q
      → sends a s p c brought gas q (Some goes) next ≡ Some change → IsSent what vs change
  sends-is what vs change brought gas q brings carries becomes made = at (present_name p c) refl made
    where
      at : (o : Option ℕ) → present_name p c ≡ o
          → (o >>= λ from. Some (sent_change brought gas q from)) ≡ Some change → IsSent what vs change
      at (Some from) named is = record {
        brought = brought;
        brings = brings;
        from = from;
        named = named;
        is = one-some change (sent_change brought gas q from) (sym is)
            ∙ ap (λ (gas : ℕ). sent_change brought gas q from) (sym carries)
            ∙ ap (λ (q : Process). sent_change brought (gas_of_sending what) q from) (sym becomes);
      }
      at None named is = absurd cc

  pub sending-is : (what : Sending) (vs : List Value) (change : Change)
      → sending_change a s p vs c what (Some goes) next ≡ Some change → IsSent what vs change
  sending-is (sending.Label l) vs change made = sends-is (sending.Label l) vs change _ 0 p refl refl refl made
  sending-is (sending.Channel y name true) vs change made =
      sends-is (sending.Channel y name true) vs change _ 0 p refl refl refl made
  sending-is (sending.Channel y name false) vs change made =
      sends-is (sending.Channel y name false) vs change _ 0 (without_channel y p) refl refl refl made
  sending-is (sending.Potential gas) vs change made = sends-is (sending.Potential gas) vs change _ gas _ refl refl refl
      made
  sending-is sending.Value vs change made = at (one_of vs) refl made
    where
      at : (o : Option Value) → one_of vs ≡ o
          → (o >>= λ x. sends a s p c (payload.Value x) 0 p (Some goes) next) ≡ Some change
          → IsSent sending.Value vs change
      at (Some x) found is = sends-is sending.Value vs change (payload.Value x) 0 p
          (ap (λ (o : Option Value). o >>= λ x. Some (payload.Value x)) found) refl refl is
      at None found is = absurd cc

  pub sent-made : (brought : Payload) (gas from pid : ℕ) (q : Process) (change : Change) → process_at s pid ≡ Some p
      → p.pid ≡ pid → change ≡ sent_change brought gas q from
      → with_process pid (standing_at next (under_name c s.next_name q)) (with_sent (is_own c) from brought gas goes s)
      ≡ made s change
  sent-made brought gas from pid q change there number is =
      let after = standing_at next (under_name c s.next_name q) in
      let message = object.Message (message_sent s (is_own c) from brought gas) in
      ap (with_name goes) (becomes-before s pid p message there after)
      ∙ same-state (with_name goes (with_object message (with_process pid after s)))
      (made s (sent_change brought gas q from))
      (ap (λ (n : ℕ). put_at n (Some (object.Process after)) s.objects ++ message ∷ []) (sym number))
      refl refl refl refl (omega arith) (sym (append-nil s.results)) refl
      ∙ ap (made s) (sym is)

-- ---- receives

module _ (a : Acceptance) (s : State) (p : Process) where
  pub record IsReceived (c : Chan) (number : ℕ) (where_to : Into) (next : CodeId) (change : Change) : Type 0 where
    pub message : Message
    pub found : message_at s.objects number ≡ Some message
    pub name : ℕ
    pub named : message.next ≡ Some name
    pub becomes : Process
    pub takes_in : taken where_to message.payload (under_name c name p) ≡ Some becomes
    pub is : change ≡ takes a s p message (standing_at next becomes)

  pub received-is : (c : Chan) (number : ℕ) (where_to : Into) (next : CodeId) (vs : List Value) (change : Change)
      → act_change a s p vs (act.Receive (record { channel = c; message = number; into = where_to; next = next }))
      ≡ Some change
      → IsReceived c number where_to next change
  received-is c number where_to next vs change made = at (message_at s.objects number) refl made
    where
      taking : (m : Message) → message_at s.objects number ≡ Some m → (name : ℕ) → m.next ≡ Some name
          → (o : Option Process)
          → taken where_to m.payload (under_name c name p) ≡ o
          → (o >>= λ q. Some (takes a s p m (standing_at next q))) ≡ Some change
          → IsReceived c number where_to next change
      taking m found name named (Some q) takes_in is = record {
        message = m;
        found = found;
        name = name;
        named = named;
        becomes = q;
        takes_in = takes_in;
        is = one-some change (takes a s p m (standing_at next q)) (sym is);
      }
      taking m found name named None takes_in is = absurd cc

      naming : (m : Message) → message_at s.objects number ≡ Some m → (o : Option ℕ) → m.next ≡ o
          → (o >>= λ name. taken where_to m.payload (under_name c name p) >>= λ q.
          Some (takes a s p m (standing_at next q))) ≡ Some change → IsReceived c number where_to next change
      naming m found (Some name) named is = taking m found name named (taken where_to m.payload (under_name c name p))
          refl is
      naming m found None named is = absurd cc

      at : (o : Option Message) → message_at s.objects number ≡ o
          → (o >>= λ m. received_change a s p vs m c where_to next) ≡ Some change
          → IsReceived c number where_to next change
      at (Some m) found is = naming m found m.next refl is
      at None found is = absurd cc

  pub record IsHeard (v : VarId) (number : ℕ) (next : CodeId) (change : Change) : Type 0 where
    pub message : Message
    pub found : message_at s.objects number ≡ Some message
    pub is : change ≡ takes a s p message (standing_at next (without_channel v p))

  pub heard-is : (v : VarId) (number : ℕ) (next : CodeId) (vs : List Value) (change : Change)
      → act_change a s p vs (act.Wait v number next) ≡ Some change → IsHeard v number next change
  heard-is v number next vs change made = at (message_at s.objects number) refl made
    where
      at : (o : Option Message) → message_at s.objects number ≡ o
          → (o >>= λ m. Some (takes a s p m (standing_at next (without_channel v p)))) ≡ Some change
          → IsHeard v number next change
      at (Some m) found is = record {
        message = m;
        found = found;
        is = one-some change (takes a s p m (standing_at next (without_channel v p))) (sym is);
      }
      at None found is = absurd cc

  pub takes-made : (m : Message) (pid number : ℕ) (q : Process) (change : Change) → p.pid ≡ pid
      → message_at s.objects number ≡ Some m → change ≡ takes a s p m q
      → without_object number (with_process pid (richer m.purse q) s) ≡ made s change
  takes-made m pid number q change same found is =
      let own : m.number ≡ number =
      (object_at-found number (object.Message m) s.objects (message-found s.objects number m found)).0 in
      let new = Some (object.Process (richer m.purse q)) in
      same-state (without_object number (with_process pid (richer m.purse q) s)) (made s (takes a s p m q))
      (ap (λ (n : ℕ). put_at number None (put_at n new s.objects)) (sym same)
      ∙ ap (λ (n : ℕ). put_at n None (put_at p.pid new s.objects)) (sym own)
      ∙ sym (append-nil (put_at m.number None (put_at p.pid new s.objects))))
      (omega arith) (omega arith) (sym (append-nil s.types)) refl (omega arith) (sym (append-nil s.results)) refl
      ∙ ap (made s) (sym is)
