-- What is sent and taken in, and the processes that do so.
use Rattle.std.proofs.Common.{◌≡◌, ◌∙◌, ◌+◌, ◌-◌, arith, ℕ, true, false, Option, Some, None, refl, sym, ap}
use Rattle.std.specs.Option.{option_map}
use Rattle.nomos_ir.specs.Value.{Value}
use Rattle.nomos_ir.specs.declared.code_node.Chan.{Chan}
use Rattle.nomos_ir.specs.declared.code_node.Chan.TheVariants as chan
use Rattle.nomos_ir.specs.declared.ids.CodeId.{CodeId}
use Rattle.nomos_ir.specs.declared.ids.VarId.{VarId}
use Rattle.nomos_deeds.specs.Acts.{taken}
use Rattle.nomos_deeds.specs.SeenObjects.{seen_channel, seen_message, seen_payload, seen_process}
use Rattle.nomos_deeds.specs.declared.act.Into.{Into}
use Rattle.nomos_deeds.specs.declared.act.Into.TheVariants as into
use Rattle.nomos_deeds.specs.declared.act.Sending.{Sending}
use Rattle.nomos_deeds.specs.declared.act.Sending.TheVariants as sending
use Rattle.nomos_deeds.specs.declared.sight.SeenMessage.{SeenMessage}
use Rattle.nomos_deeds.specs.declared.sight.SeenProcess.{SeenProcess}
use Rattle.nomos_machine.specs.Deeds.{channel_in, value_in}
use Rattle.nomos_machine.specs.Optional.{◌>>=◌}
use Rattle.nomos_machine.specs.Revised.{poorer, richer, standing_at, under_name, with_channel, with_value}
use Rattle.nomos_machine.specs.declared.object.Message.{Message}
use Rattle.nomos_machine.specs.declared.object.Payload.{Payload}
use Rattle.nomos_machine.specs.declared.object.Payload.TheVariants as payload
use Rattle.nomos_machine.specs.declared.object.Process.{Process}
use Rattle.nomos_changes.specs.PlainFields.{provides_under, uses_under}
use Rattle.nomos_changes.specs.Sendings.{after_sending, gas_of_sending, handing_over}
use Rattle.nomos_changes.specs.SmallChanges.{with_fields}
use Rattle.nomos_changes.proofs.MadeLemmas.{one-some}

-- ---- numbers of processes stay

pub under-pid : (c : Chan) (name : ℕ) (p : Process) → (under_name c name p).pid ≡ p.pid
under-pid chan.Own name p = refl
under-pid (chan.Var v) name p = refl

pub sending-pid : (what : Sending) (p : Process) → (after_sending what p).pid ≡ p.pid
sending-pid (sending.Label l) p = refl
sending-pid (sending.Channel y name true) p = refl
sending-pid (sending.Channel y name false) p = refl
sending-pid sending.Value p = refl
sending-pid (sending.Potential gas) p = refl

pub handing-pid : (what : Sending) (p : Process) → (handing_over what p).pid ≡ p.pid
handing-pid (sending.Label l) p = refl
handing-pid (sending.Channel y name true) p = refl
handing-pid (sending.Channel y name false) p = refl
handing-pid sending.Value p = refl
handing-pid (sending.Potential gas) p = refl

pub uses-pid : (c : Chan) (name : ℕ) (p : Process) → (uses_under c name p).pid ≡ p.pid
uses-pid chan.Own name p = refl
uses-pid (chan.Var v) name p = refl

-- ---- plain fields are written once

less-none : (n : ℕ) → n - 0 ≡ n
less-none n = omega arith

-- who spends nothing
spends-none : (c : Chan) (name : ℕ) (next : CodeId) (p : Process)
    → seen_process (standing_at next (provides_under c name (poorer 0 p)))
    ≡ seen_process (standing_at next (provides_under c name p))
spends-none c name next p =
    ap (λ (n : ℕ). seen_process (standing_at next (provides_under c name (record p { purse = n })))) (less-none p.purse)

-- what is seen of a sender, from what was seen of it before
pub send-seen : (what : Sending) (c : Chan) (name : ℕ) (next : CodeId) (p : Process)
    → seen_process (standing_at next (provides_under c name (poorer (gas_of_sending what) p)))
    ≡ seen_process (standing_at next (under_name c name (after_sending what p)))
send-seen (sending.Label l) chan.Own name next p = spends-none chan.Own name next p
send-seen (sending.Label l) (chan.Var v) name next p = spends-none (chan.Var v) name next p
send-seen (sending.Channel y k true) chan.Own name next p = spends-none chan.Own name next p
send-seen (sending.Channel y k true) (chan.Var v) name next p = spends-none (chan.Var v) name next p
send-seen (sending.Channel y k false) chan.Own name next p = spends-none chan.Own name next p
send-seen (sending.Channel y k false) (chan.Var v) name next p = spends-none (chan.Var v) name next p
send-seen sending.Value chan.Own name next p = spends-none chan.Own name next p
send-seen sending.Value (chan.Var v) name next p = spends-none (chan.Var v) name next p
send-seen (sending.Potential gas) chan.Own name next p = refl
send-seen (sending.Potential gas) (chan.Var v) name next p = refl

-- the sender whose rows are changed becomes the one that it is by its plain fields
pub send-written : (what : Sending) (c : Chan) (name : ℕ) (next : CodeId) (p : Process)
    → with_fields (seen_process (standing_at next (under_name c name (after_sending what p))))
    (uses_under c name (handing_over what p))
    ≡ standing_at next (under_name c name (after_sending what p))
send-written (sending.Label l) chan.Own name next p = refl
send-written (sending.Label l) (chan.Var v) name next p = refl
send-written (sending.Channel y k true) chan.Own name next p = refl
send-written (sending.Channel y k true) (chan.Var v) name next p = refl
send-written (sending.Channel y k false) chan.Own name next p = refl
send-written (sending.Channel y k false) (chan.Var v) name next p = refl
send-written sending.Value chan.Own name next p = refl
send-written sending.Value (chan.Var v) name next p = refl
send-written (sending.Potential gas) chan.Own name next p = refl
send-written (sending.Potential gas) (chan.Var v) name next p = refl

-- ---- what a message brings is taken in

pub value-under : (c : Chan) (name : ℕ) (v : VarId) (x : Value) (p : Process)
    → uses_under c name (with_value v x p) ≡ with_value v x (uses_under c name p)
value-under chan.Own name v x p = refl
value-under (chan.Var w) name v x p = refl

pub taken-channel : (v : VarId) (brought : Payload) (p q : Process) → taken (into.Channel v) brought p ≡ Some q
    → (name : ℕ) × (seen_channel (seen_payload brought) ≡ Some name) × (with_channel v name p ≡ q)
taken-channel v (payload.Channel name) p q is = (name, refl, one-some (with_channel v name p) q is)
taken-channel v (payload.Label l) p q is = absurd cc
taken-channel v (payload.Value x) p q is = absurd cc
taken-channel v payload.Pay p q is = absurd cc
taken-channel v payload.Close p q is = absurd cc

pub taken-value : (v : VarId) (brought : Payload) (p q : Process) → taken (into.Value v) brought p ≡ Some q
    → (x : Value) × (value_in brought ≡ Some x) × (with_value v x p ≡ q)
taken-value v (payload.Value x) p q is = (x, refl, one-some (with_value v x p) q is)
taken-value v (payload.Label l) p q is = absurd cc
taken-value v (payload.Channel name) p q is = absurd cc
taken-value v payload.Pay p q is = absurd cc
taken-value v payload.Close p q is = absurd cc

-- no plain field changes by it
pub taken-seen : (where_to : Into) (brought : Payload) (p q : Process) → taken where_to brought p ≡ Some q
    → seen_process q ≡ seen_process p
taken-seen into.Nothing brought p q is = ap seen_process (sym (one-some p q is))
taken-seen (into.Channel v) brought p q is = ap seen_process (sym (taken-channel v brought p q is).2)
taken-seen (into.Value v) brought p q is = ap seen_process (sym (taken-value v brought p q is).2)

-- and it is the same with whatever plain fields
some-fields : {A : Type 0} (x : SeenProcess) (f : A → Process) (o : Option A)
    → (o >>= λ a. Some (with_fields x (f a))) ≡ option_map (with_fields x) (o >>= λ a. Some (f a))
some-fields x f (Some a) = refl
some-fields x f None = refl

taken-fields : (x : SeenProcess) (where_to : Into) (brought : Payload) (p : Process)
    → taken where_to brought (with_fields x p) ≡ option_map (with_fields x) (taken where_to brought p)
taken-fields x into.Nothing brought p = refl
taken-fields x (into.Channel v) brought p = some-fields x (λ name. with_channel v name p) (channel_in brought)
taken-fields x (into.Value v) brought p = some-fields x (λ given. with_value v given p) (value_in brought)

-- the receiver whose rows alone are changed has the plain fields that it had
pub taken-rows : (c : Chan) (name : ℕ) (where_to : Into) (brought : Payload) (p q : Process)
    → taken where_to brought (under_name c name p) ≡ Some q
    → taken where_to brought (uses_under c name p) ≡ Some (with_fields (seen_process p) q)
taken-rows c name where_to brought p q is =
    ap (taken where_to brought) (rows c)
    ∙ taken-fields (seen_process p) where_to brought (under_name c name p)
    ∙ ap (option_map (with_fields (seen_process p))) is
  where
    rows : (c : Chan) → uses_under c name p ≡ with_fields (seen_process p) (under_name c name p)
    rows chan.Own = refl
    rows (chan.Var v) = refl

-- what is seen of a receiver, from what was seen of it before
pub receive-seen : (c : Chan) (name gas : ℕ) (next : CodeId) (p q : Process)
    → seen_process q ≡ seen_process (under_name c name p)
    → seen_process (standing_at next (provides_under c name (richer gas p)))
    ≡ seen_process (richer gas (standing_at next q))
receive-seen c name gas next p q seen =
    under c ∙ ap (λ (x : SeenProcess). record x { code = next; purse = x.purse + gas }) (sym seen)
  where
    under : (c : Chan) → seen_process (standing_at next (provides_under c name (richer gas p)))
        ≡ seen_process (richer gas (standing_at next (under_name c name p)))
    under chan.Own = refl
    under (chan.Var v) = refl

-- ---- and no purse changes

pub under-purse : (c : Chan) (name : ℕ) (p : Process) → (under_name c name p).purse ≡ p.purse
under-purse chan.Own name p = refl
under-purse (chan.Var v) name p = refl

pub taken-purse : (where_to : Into) (brought : Payload) (p q : Process) → taken where_to brought p ≡ Some q
    → q.purse ≡ p.purse
taken-purse where_to brought p q is = ap (λ (x : SeenProcess). x.purse) (taken-seen where_to brought p q is)

-- what is seen of the message that is there
pub message-seen : (o : Option Message) (m : Message) (seen : SeenMessage) → Some seen ≡ option_map seen_message o
    → o ≡ Some m → seen ≡ seen_message m
message-seen (Some k) m seen looked there =
    let same : k ≡ m = cc in
    let is : seen ≡ seen_message k = cc in
    is ∙ ap seen_message same
message-seen None m seen looked there = absurd cc
