-- What an outside party says, as the small changes that it is made of.
use Rattle.std.proofs.Common.{◌≡◌, ◌∙◌, ℕ, false, map, Some, sym, ap, subst, refl, arith, append-nil}
use Rattle.nomos_ir.specs.declared.ids.TypeId.{TypeId}
use Rattle.nomos_types.specs.Acceptance.{Acceptance}
use Rattle.nomos_deeds.specs.declared.awaiting.Way.{Way}
use Rattle.nomos_machine.specs.Change.{CanGive, changed, made, paid_out, tidied}
use Rattle.nomos_machine.specs.Opening.{outside_name}
use Rattle.nomos_machine.specs.Revised.{renamed}
use Rattle.nomos_machine.specs.Saying.{AwaitsOn, CanSay, MaySay, Says, brought, says}
use Rattle.nomos_machine.specs.State.{State}
use Rattle.nomos_machine.specs.declared.object.Object.{Object}
use Rattle.nomos_machine.specs.declared.object.Object.TheVariants as object
use Rattle.nomos_machine.specs.declared.object.Payload.{Payload}
use Rattle.nomos_machine.specs.declared.object.Said.{Said}
use Rattle.nomos_machine.proofs.AwaitLaws.{may_say-once}
use Rattle.nomos_changes.specs.Sendings.{with_sent}
use Rattle.nomos_changes.specs.SmallChanges.{with_name, with_object}
use Rattle.nomos_changes.proofs.MadeLemmas.{same-state}

-- ---- the small changes

-- so much was paid, and the outside name goes on
abbrev with_paid : ℕ → ℕ → State → State
with_paid account gas s = record s { balances = paid_out (Some (account, gas)) s.balances }

abbrev with_renamed : ℕ → ℕ → State → State
with_renamed old new s = record s { outside = map (renamed old new) s.outside }

said-is : (s : State) (name : ℕ) (brings : Payload) (goes : TypeId) (account gas : ℕ)
    → tidied (with_renamed name s.next_name (with_paid account gas (with_sent false name brings gas goes s)))
    ≡ changed s (says s name brings goes account gas)
said-is s name brings goes account gas =
    ap tidied (same-state
    (with_renamed name s.next_name (with_paid account gas (with_sent false name brings gas goes s)))
    (made s (says s name brings goes account gas))
    refl refl refl refl refl (omega arith) (sym (append-nil s.results)) refl)

abbrev message_of : ℕ → ℕ → ℕ → Payload → ℕ → Object
message_of number name next brings purse = object.Message (record {
  number = number;
  to_client = false;
  from = name;
  next = Some next;
  payload = brings;
  purse = purse;
})

-- a message came and the next name, the account paid, and the outside name went on
pub spoken-is : (s came named paid gone u : State) (name number next purse cost gas account : ℕ) (brings : Payload)
    (goes : TypeId) → number ≡ s.next_object → next ≡ s.next_name → purse ≡ gas → cost ≡ gas
    → came ≡ with_object (message_of number name next brings purse) s → named ≡ with_name goes came
    → paid ≡ with_paid account cost named → gone ≡ with_renamed name next paid → u ≡ tidied gone
    → u ≡ changed s (says s name brings goes account gas)
spoken-is s came named paid gone u name number next purse cost gas account brings goes number_is next_is purse_is
    cost_is
    came_is named_is paid_is gone_is after =
    let first : came ≡ with_object (message_of s.next_object name s.next_name brings gas) s =
    came_is
    ∙ ap (λ (n : ℕ). with_object (message_of n name next brings purse) s) number_is
    ∙ ap (λ (n : ℕ). with_object (message_of s.next_object name n brings purse) s) next_is
    ∙ ap (λ (n : ℕ). with_object (message_of s.next_object name s.next_name brings n) s) purse_is
    in
    let second : named ≡ with_sent false name brings gas goes s = named_is ∙ ap (with_name goes) first in
    let third : paid ≡ with_paid account gas (with_sent false name brings gas goes s) =
    paid_is ∙ ap (with_paid account cost) second
    ∙ ap (λ (n : ℕ). with_paid account n (with_sent false name brings gas goes s)) cost_is
    in
    after
    ∙ ap tidied (gone_is ∙ ap (with_renamed name next) third
    ∙ ap (λ (n : ℕ). with_renamed name n (with_paid account gas (with_sent false name brings gas goes s))) next_is)
    ∙ said-is s name brings goes account gas

-- ---- what may be said

module _ {a : Acceptance} {s : State} {account : ℕ} {what : Said} (can : CanSay a s account what) where
  -- the type of the outside name awaits it
  pub can-on : (name : ℕ) → Some name ≡ outside_name s
      → AwaitsOn a s.types name what can.gas can.may.0
  can-on name is =
      let here = can.may.1.outside in
      let same : can.may.1.name ≡ name = cc in
      subst (λ (n : ℕ). AwaitsOn a s.types n what can.gas can.may.0) same can.may.1.on

  -- what is awaited on the outside name may be said, and the account has what goes with it
  abbrev pub way-may : (name : ℕ) → Some name ≡ outside_name s → (w : Way) → AwaitsOn a s.types name what w.gas w.goes
      → MaySay a s what w.gas w.goes
  way-may name is w on = record { name = name; outside = sym is; on = on }

  pub way-has : (w : Way) → MaySay a s what w.gas w.goes → CanGive (Some (account, w.gas)) s.balances
  way-has w may =
      let (same, goes) = may_say-once can.may.1 may in
      subst (λ (gas : ℕ). CanGive (Some (account, gas)) s.balances) same can.has

  pub way-says : (name : ℕ) (is : Some name ≡ outside_name s) (w : Way)
      (on : AwaitsOn a s.types name what w.gas w.goes) (t u : State) (brings : Payload) → t ≡ s
      → brings ≡ brought what → u ≡ changed t (says t name brings w.goes account w.gas)
      → Says a s account what u
  way-says name is w on t u brings same is_brought after =
      let may = way-may name is w on in
      record {
        gas = w.gas;
        goes = w.goes;
        may = may;
        has = way-has w may;
        after =
            after
            ∙ ap (λ (t : State). changed t (says t name brings w.goes account w.gas)) same
            ∙ ap (λ (p : Payload). changed s (says s name p w.goes account w.gas)) is_brought;
      }
