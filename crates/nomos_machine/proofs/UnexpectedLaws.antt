-- In a typed state a process gets no message that its instruction does not receive.
use Rattle.std.proofs.Common.{◌≡◌, ◌∙◌, ℕ, Bool, not, List, [], ◌∷◌, Contains, Option, Some, None, refl, sym, subst, arith}
use Rattle.nomos_ir.specs.Bindings.{bound_to}
use Rattle.nomos_ir.specs.declared.amount.Amount.{Amount}
use Rattle.nomos_ir.specs.declared.code_node.Arm.{Arm}
use Rattle.nomos_ir.specs.declared.code_node.Chan.{Chan}
use Rattle.nomos_ir.specs.declared.code_node.Chan.TheVariants as chan
use Rattle.nomos_ir.specs.declared.code_node.CodeNode.{CodeNode}
use Rattle.nomos_ir.specs.declared.code_node.CodeNode.TheVariants as code
use Rattle.nomos_ir.specs.declared.ids.CodeId.{CodeId}
use Rattle.nomos_ir.specs.declared.ids.Label.{Label}
use Rattle.nomos_ir.specs.declared.ids.TermId.{TermId}
use Rattle.nomos_ir.specs.declared.ids.TypeId.{TypeId}
use Rattle.nomos_ir.specs.declared.ids.VarId.{VarId}
use Rattle.nomos_ir.specs.declared.kind.Kind.{Kind}
use Rattle.nomos_ir.specs.declared.type_node.TypeNode.{TypeNode}
use Rattle.nomos_ir.specs.declared.type_node.TypeNode.TheVariants as node
use Rattle.nomos_ir.proofs.BindingLaws.{bound-after_bind}
use Rattle.nomos_types.specs.Acceptance.{Acceptance, IsAccepted}
use Rattle.nomos_types.specs.Judgement.{Judgement, goes_on, binds_value}
use Rattle.nomos_types.specs.Premises.{HasType, by_side}
use Rattle.nomos_types.proofs.RowLaws.{row-inverted}
use Rattle.nomos_machine.specs.Matching.{NameHasType}
use Rattle.nomos_machine.specs.Sight.{is_own, present_name}
use Rattle.nomos_machine.specs.State.{State}
use Rattle.nomos_machine.specs.TypedMessage.{Brings}
use Rattle.nomos_machine.specs.TypedState.{IsTyped}
use Rattle.nomos_machine.specs.Wrong.{turns_to, HasKindAt, Receives}
use Rattle.nomos_machine.specs.declared.object.Message.{Message}
use Rattle.nomos_machine.specs.declared.object.Object.TheVariants as object
use Rattle.nomos_machine.specs.declared.object.Payload.{Payload}
use Rattle.nomos_machine.specs.declared.object.Process.{Process}
use Rattle.nomos_machine.proofs.AloneDeeds.{At}
use Rattle.nomos_machine.proofs.ChannelLaws.{channel-unshared, present-has_type}
use Rattle.nomos_machine.proofs.GoesLaws.{process-typed, own-row, own-stands, own-is_judgement, own-matches}
use Rattle.nomos_machine.proofs.MessageLaws.{message-brings}
use Rattle.nomos_machine.proofs.ProcessLaws.{own_judgement, next-place}
use Rattle.nomos_machine.proofs.PutLaws.{contains-one}
use Rattle.nomos_machine.proofs.SpeakerLaws.{speaker, brings-speaks, sends-speaks, speaks-once}
use Rattle.nomos_machine.proofs.TalkLaws.{received-label, received-channel, received-one_value, received-potential, received-end}

-- a channel goes on, and the process at the next instruction
goes_on-code : (j : Judgement) (c : Chan) (t : TypeId) (next : CodeId) → (goes_on j c t next).code ≡ next
goes_on-code j chan.Own t next = refl
goes_on-code j (chan.Var v) t next = refl

module _ {a : Acceptance} (accepted : IsAccepted a) {s : State} (typed : IsTyped a s) {p : Process}
    (there : Contains s.objects (object.Process p)) (m : Message)
    (waiting : Contains s.objects (object.Message m)) where
  abbrev own : Judgement
  own = own_judgement p (process-typed typed there)

  -- the message waits for the process on this channel
  abbrev IsFor : Chan → Type 0
  IsFor c = (present_name p c ≡ Some m.from) × (m.to_client ≡ not (is_own c))

  abbrev Received : CodeNode → Type 0
  Received n = Receives a n m.payload m.purse

  -- it brings what is awaited at the node to which the channel's type unfolds
  brings-at : (c : Chan) (n : TypeNode) → HasType a.program own c n → IsFor c
      → (goes : Option TypeId) × Brings a.program a.annotations s.types (not (is_own c)) n m.payload m.purse goes
  brings-at c n (held, holds, unfolds) (here, way) =
      let unshared = channel-unshared (own-is_judgement typed there accepted) c held holds in
      let (name, present, is) = present-has_type (own-matches typed there) c held unshared holds in
      let same : name ≡ m.from = some-one (sym present ∙ here) in
      let b = message-brings accepted typed m held n waiting
      (subst (λ (k : ℕ). NameHasType a.program a.annotations s.types k held) same is) unfolds
      in
      (b.goes, subst (λ (w : Bool). Brings a.program a.annotations s.types w n m.payload m.purse b.goes) way b.brings)
    where
      some-one : {k : ℕ} → Some k ≡ Some m.from → k ≡ m.from
      some-one is = cc

  -- so the process does not speak next there
  not-silent : (c : Chan) (n : TypeNode) → HasType a.program own c n → IsFor c → speaker n ≡ Some (is_own c) → ⊥
  not-silent c n has is_for speaks =
      let (goes, brings) = brings-at c n has is_for in
      speaks-once (is_own c) speaks (brings-speaks brings)

  -- nor does neither
  not-awaited : (c : Chan) (n : TypeNode) → HasType a.program own c n → IsFor c → speaker n ≡ None → ⊥
  not-awaited c n has is_for speaks =
      let (goes, brings) = brings-at c n has is_for in
      differ (not (is_own c)) (sym speaks ∙ brings-speaks brings)
    where
      differ : (b : Bool) → None ≡ Some b → ⊥
      differ b is = cc

  -- ---- by the instruction

  label-hears : (at : ℕ) (c : Chan) (l : Label) (next : CodeId) → At accepted typed there (code.Label at c l next)
      → IsFor c → Received (code.Label at c l next)
  label-hears at c l next stands is_for =
      let n : CodeNode = code.Label at c l next in
      let (after, row) = own-row typed there accepted in
      let (t, sends_it, goes_on_so) = row-inverted n (own-stands typed there n stands) row in
      let bs = sends_it.branches in
      absurd (not-silent c (by_side c (node.Plus bs) (node.With bs)) sends_it.channel is_for
      (sends-speaks c (node.Plus bs) (node.With bs) refl refl))

  send-hears : (at : ℕ) (c : Chan) (y : VarId) (next : CodeId) → At accepted typed there (code.Send at c y next)
      → IsFor c → Received (code.Send at c y next)
  send-hears at c y next stands is_for =
      let n : CodeNode = code.Send at c y next in
      let (after, row) = own-row typed there accepted in
      let (left, t, sends_it, goes_on_so) = row-inverted n (own-stands typed there n stands) row in
      let sent = sends_it.carried in
      absurd (not-silent c (by_side c (node.Tensor sent t) (node.Lolli sent t)) sends_it.channel is_for
      (sends-speaks c (node.Tensor sent t) (node.Lolli sent t) refl refl))

  put-hears : (at : ℕ) (c : Chan) (e : TermId) (next : CodeId) → At accepted typed there (code.Put at c e next)
      → IsFor c → Received (code.Put at c e next)
  put-hears at c e next stands is_for =
      let n : CodeNode = code.Put at c e next in
      let (after, row) = own-row typed there accepted in
      let (t, sends_it, goes_on_so) = row-inverted n (own-stands typed there n stands) row in
      let kind = sends_it.kind in
      absurd (not-silent c (by_side c (node.ValueOut kind t) (node.ValueIn kind t)) sends_it.channel is_for
      (sends-speaks c (node.ValueOut kind t) (node.ValueIn kind t) refl refl))

  pay-hears : (at : ℕ) (c : Chan) (r : Amount) (next : CodeId) → At accepted typed there (code.Pay at c r next)
      → IsFor c → Received (code.Pay at c r next)
  pay-hears at c r next stands is_for =
      let n : CodeNode = code.Pay at c r next in
      let (after, row) = own-row typed there accepted in
      let (t, pays_it, goes_on_so) = row-inverted n (own-stands typed there n stands) row in
      let amount = pays_it.amount in
      absurd (not-silent c (by_side c (node.PotOut amount t) (node.PotIn amount t)) pays_it.channel is_for
      (sends-speaks c (node.PotOut amount t) (node.PotIn amount t) refl refl))

  close-hears : (at : ℕ) → At accepted typed there (code.Close at) → IsFor chan.Own → Received (code.Close at)
  close-hears at stands is_for =
      let n : CodeNode = code.Close at in
      let (after, row) = own-row typed there accepted in
      let (closes_it, goes_on_so) = row-inverted n (own-stands typed there n stands) row in
      absurd (not-silent chan.Own node.One closes_it.channel is_for refl)

  accept-hears : (at : ℕ) (next : CodeId) → At accepted typed there (code.Accept at next) → IsFor chan.Own
      → Received (code.Accept at next)
  accept-hears at next stands is_for =
      let n : CodeNode = code.Accept at next in
      let (after, row) = own-row typed there accepted in
      let (t, accepts_it, goes_on_so) = row-inverted n (own-stands typed there n stands) row in
      absurd (not-awaited chan.Own (node.Up t) accepts_it.channel is_for refl)

  detach-hears : (at : ℕ) (next : CodeId) → At accepted typed there (code.Detach at next) → IsFor chan.Own
      → Received (code.Detach at next)
  detach-hears at next stands is_for =
      let n : CodeNode = code.Detach at next in
      let (after, row) = own-row typed there accepted in
      let (t, detaches_it, goes_on_so) = row-inverted n (own-stands typed there n stands) row in
      absurd (not-awaited chan.Own (node.Down t) detaches_it.channel is_for refl)

  release-hears : (at : ℕ) (v r : VarId) (next : CodeId) → At accepted typed there (code.Release at v r next)
      → IsFor (chan.Var v) → Received (code.Release at v r next)
  release-hears at v r next stands is_for =
      let n : CodeNode = code.Release at v r next in
      let (after, row) = own-row typed there accepted in
      let (t, releases_it, goes_on_so) = row-inverted n (own-stands typed there n stands) row in
      absurd (not-awaited (chan.Var v) (node.Down t) releases_it.channel is_for refl)

  case-hears : (at : ℕ) (c : Chan) (arms : List Arm) → At accepted typed there (code.Case at c arms)
      → IsFor c → Received (code.Case at c arms)
  case-hears at c arms stands is_for =
      let n : CodeNode = code.Case at c arms in
      let (after, row) = own-row typed there accepted in
      let awaits = row-inverted n (own-stands typed there n stands) row in
      let bs = awaits.branches in
      let (goes, brings) = brings-at c (by_side c (node.With bs) (node.Plus bs)) awaits.channel is_for in
      let (l, t, is_label, no_gas, goes_so, goes_by_it) = received-label c bs brings in
      subst (λ (brought : Payload). Receives a n brought m.purse) (sym is_label) (awaits.each_label l t goes_by_it)

  recv-hears : (at : ℕ) (c : Chan) (y : VarId) (next : CodeId) → At accepted typed there (code.Recv at c y next)
      → IsFor c → Received (code.Recv at c y next)
  recv-hears at c y next stands is_for =
      let n : CodeNode = code.Recv at c y next in
      let (after, row) = own-row typed there accepted in
      let (mode, sent, t, receives_it, goes_on_so) = row-inverted n (own-stands typed there n stands) row in
      let (goes, brings) =
      brings-at c (by_side c (node.Lolli sent t) (node.Tensor sent t)) receives_it.channel is_for
      in
      let (name, is_channel, no_gas, goes_so, is_sent) = received-channel c sent t brings in
      subst (λ (brought : Payload). Receives a n brought m.purse) (sym is_channel) tt

  get-hears : (at : ℕ) (c : Chan) (r : Amount) (next : CodeId) → At accepted typed there (code.Get at c r next)
      → IsFor c → Received (code.Get at c r next)
  get-hears at c r next stands is_for =
      let n : CodeNode = code.Get at c r next in
      let (after, row) = own-row typed there accepted in
      let (t, gets, goes_on_so) = row-inverted n (own-stands typed there n stands) row in
      let amount = gets.amount in
      let (goes, brings) = brings-at c (by_side c (node.PotIn amount t) (node.PotOut amount t)) gets.channel is_for in
      let (is_pay, is_gas, goes_so) = received-potential c amount t brings in
      subst (λ (brought : Payload). Receives a n brought m.purse) (sym is_pay) (is_gas ∙ sym gets.same)

  wait-hears : (at : ℕ) (v : VarId) (next : CodeId) → At accepted typed there (code.Wait at v next) → IsFor (chan.Var v)
      → Received (code.Wait at v next)
  wait-hears at v next stands is_for =
      let n : CodeNode = code.Wait at v next in
      let (after, row) = own-row typed there accepted in
      let (has_type, goes_on_so) = row-inverted n (own-stands typed there n stands) row in
      let (goes, brings) = brings-at (chan.Var v) node.One has_type is_for in
      let (is_close, no_gas, no_goes) = received-end brings in
      subst (λ (brought : Payload). Receives a n brought m.purse) (sym is_close) tt

  take-hears : (at : ℕ) (c : Chan) (v : VarId) (next : CodeId) → At accepted typed there (code.Take at c v next)
      → IsFor c → Received (code.Take at c v next)
  take-hears at c v next stands is_for =
      let n : CodeNode = code.Take at c v next in
      let (after, row) = own-row typed there accepted in
      let (kind, t, receives_it, goes_on_so) = row-inverted n (own-stands typed there n stands) row in
      let (goes, brings) =
      brings-at c (by_side c (node.ValueIn kind t) (node.ValueOut kind t)) receives_it.channel is_for
      in
      let (x, is_value, no_gas, goes_so, of_kind) = received-one_value c kind t brings in
      let k : Judgement = binds_value (goes_on own c t next) v kind in
      let among : Contains after k =
      subst (λ (js : List Judgement). Contains js k) (sym goes_on_so) (0, omega arith, refl)
      in
      let (place, is_place, beside) = next-place accepted (process-typed typed there) after k row among in
      let bound = bound-after_bind v kind (goes_on own c t next).kinds in
      let has : HasKindAt a next v kind = record {
        place = place;
        is_place = is_place;
        here = sym beside.code ∙ goes_on-code own c t next;
        bound = subst (λ (ks : List (VarId × Kind)). bound_to v.0 ks ≡ Some kind) beside.kinds bound;
      } in
      subst (λ (brought : Payload). Receives a n brought m.purse) (sym is_value) (kind, has, of_kind)

  -- a message that waits for the process on the channel to which it turns is received
  pub is-received : (n : CodeNode) (c : Chan) → At accepted typed there n → Contains (turns_to n) c
      → present_name p c ≡ Some m.from → m.to_client ≡ not (is_own c) → Receives a n m.payload m.purse
  is-received n c stands turns here way = by_node n stands turns
    where
      alone : (d : Chan) → Contains (d ∷ []) c → IsFor d
      alone d among = subst IsFor (sym (contains-one d c among)) (here, way)

      by_node : (k : CodeNode) → At accepted typed there k → Contains (turns_to k) c → Received k
      by_node (code.Label at d l next) stands turns = label-hears at d l next stands (alone d turns)
      by_node (code.Case at d arms) stands turns = case-hears at d arms stands (alone d turns)
      by_node (code.Send at d y next) stands turns = send-hears at d y next stands (alone d turns)
      by_node (code.Recv at d y next) stands turns = recv-hears at d y next stands (alone d turns)
      by_node (code.Put at d e next) stands turns = put-hears at d e next stands (alone d turns)
      by_node (code.Take at d v next) stands turns = take-hears at d v next stands (alone d turns)
      by_node (code.Pay at d r next) stands turns = pay-hears at d r next stands (alone d turns)
      by_node (code.Get at d r next) stands turns = get-hears at d r next stands (alone d turns)
      by_node (code.Wait at v next) stands turns = wait-hears at v next stands (alone (chan.Var v) turns)
      by_node (code.Release at v r next) stands turns = release-hears at v r next stands (alone (chan.Var v) turns)
      by_node (code.Accept at next) stands turns = accept-hears at next stands (alone chan.Own turns)
      by_node (code.Detach at next) stands turns = detach-hears at next stands (alone chan.Own turns)
      by_node (code.Close at) stands turns = close-hears at stands (alone chan.Own turns)
      by_node k stands turns = absurd (omega (arith, turns.1))
