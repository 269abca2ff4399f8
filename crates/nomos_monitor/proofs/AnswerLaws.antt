-- A talk is opened, or it is refused for one cause.
use Rattle.std.proofs.Common.{Option, ◌≡◌, ◌<◌, ℕ, List, slice_index, refl, subst, ap, arith}
use Rattle.nomos_ir.specs.declared.declaration.ProcDecl.{ProcDecl}
use Rattle.nomos_types.specs.Acceptance.{Acceptance, IsAccepted}
use Rattle.nomos_types.specs.Amount.{dths}
use Rattle.nomos_machine.specs.Opening.{IsOpenerNamed}
use Rattle.nomos_machine.specs.State.{State}
use Rattle.nomos_machine.proofs.OpeningLaws.{one-opener}
use Rattle.nomos_equality.specs.Carriers.{CarriesChannel}
use Rattle.nomos_monitor.proofs.OnceLaws.{opens-once}
use Rattle.nomos_monitor.specs.Opened.{IsOpenedSo, IsRefusedSo, OpensTo}
use Rattle.nomos_monitor.specs.declared.outside_talk.TalkOpening.{TalkOpening}
use Rattle.nomos_monitor.specs.declared.outside_talk.TalkOpening.TheVariants as opening
use Rattle.nomos_monitor.specs.TalkOpening.{IsTalkRefused, OpensNamed, no_account, no_process, carries, no_gas}
use Rattle.nomos_monitor.specs.declared.talk_refusal.TalkRefusal.{TalkRefusal}
use Rattle.nomos_monitor.specs.declared.talk_refusal.TalkRefusal.TheVariants as refusal

module _ {a : Acceptance} (accepted : IsAccepted a) {s : State} {name : List ℕ} {account : ℕ} where
  -- a refusal has one cause
  pub one-refusal : (why other : TalkRefusal) → IsTalkRefused a s name account why
      → IsTalkRefused a s name account other
      → why ≡ other
  one-refusal _ _ (no_account none) (no_account more) = refl
  one-refusal _ _ (no_account none) (no_process there missing) = absurd (omega (arith, none, there))
  one-refusal _ _ (no_account none) (carries k e has c) = absurd (omega (arith, none, has.its_account))
  one-refusal _ _ (no_account none) (no_gas k e has c less) = absurd (omega (arith, none, has.its_account))
  one-refusal _ _ (no_process there missing) (no_account none) = absurd (omega (arith, none, there))
  one-refusal _ _ (no_process there missing) (no_process more none) = refl
  one-refusal _ _ (no_process there missing) (carries k e has c) = absurd (missing k e has.opener)
  one-refusal _ _ (no_process there missing) (no_gas k e has c less) = absurd (missing k e has.opener)
  one-refusal _ _ (carries n d has c) (no_account none) = absurd (omega (arith, none, has.its_account))
  one-refusal _ _ (carries n d has c) (no_process there missing) = absurd (missing n d has.opener)
  one-refusal _ _ (carries n d has c) (carries k e too more) = refl
  one-refusal _ _ (carries n d has c) (no_gas k e too none less) =
      absurd (none (subst (λ (x : ProcDecl). CarriesChannel a.program x.offers)
      (one-opener accepted name n k d e has.opener too.opener).1 c))
  one-refusal _ _ (no_gas n d has none less) (no_account missing) = absurd (omega (arith, missing, has.its_account))
  one-refusal _ _ (no_gas n d has none less) (no_process there missing) = absurd (missing n d has.opener)
  one-refusal _ _ (no_gas n d has none less) (carries k e too c) =
      absurd (none (subst (λ (x : ProcDecl). CarriesChannel a.program x.offers)
      (one-opener accepted name k n e d too.opener has.opener).1 c))
  one-refusal _ _ (no_gas n d has none less) (no_gas k e too more least) =
      ap (λ (x : ProcDecl). refusal.NoGas (slice_index s.balances account) (dths a.annotations x.amount))
      (one-opener accepted name n k d e has.opener too.opener).1

  its-opener : (t : State) (o : OpensNamed a s name account t) → IsOpenerNamed a name o.number o.opens.can.declaration
  its-opener t o = record { opener = o.opens.can.opener; named = o.named }

  -- and where there is one the talk is not opened
  pub refused-not_opened : (why : TalkRefusal) (t : State) → IsTalkRefused a s name account why
      → OpensNamed a s name account t → ⊥
  refused-not_opened _ t (no_account none) o = omega (arith, none, o.opens.can.its_account)
  refused-not_opened _ t (no_process there missing) o = missing o.number o.opens.can.declaration (its-opener t o)
  refused-not_opened _ t (carries n d has c) o =
      let same = (one-opener accepted name n o.number d o.opens.can.declaration has.opener (its-opener t o)).1 in
      o.alone (subst (λ (x : ProcDecl). CarriesChannel a.program x.offers) same c)
  refused-not_opened _ t (no_gas n d has none less) o =
      let same = (one-opener accepted name n o.number d o.opens.can.declaration has.opener (its-opener t o)).1 in
      let least = subst (λ (x : ProcDecl). slice_index s.balances account < dths a.annotations x.amount) same less in
      omega (arith, least, o.opens.can.has)

  -- ---- so an answer is told by its cause

  module _ {M : Type 0} (state_of : M → State) (marked_of : M → Option State) where
    pub refused-so : (result : TalkOpening M) → OpensTo state_of marked_of a s name account result → (why : TalkRefusal)
        → IsTalkRefused a s name account why → IsRefusedSo why result
    refused-so (opening.Talk t) opens why is = refused-not_opened why t.state is opens.2
    refused-so (opening.Refused m other) opens why is = one-refusal other why opens.2 is
    refused-so (opening.NoMemory m) opens why is = tt

    pub opened-so : (result : TalkOpening M) → OpensTo state_of marked_of a s name account result → (t : State)
        → OpensNamed a s name account t → IsOpenedSo t result
    opened-so (opening.Talk t) opens u is = opens-once accepted opens.2 is
    opened-so (opening.Refused m why) opens u is = refused-not_opened why u opens.2 is
    opened-so (opening.NoMemory m) opens u is = tt
