-- A talk that is opened with the declaration which was found by a name.
use Rattle.std.proofs.Common.{◌≡◌, ◌∙◌, ◌≤◌, ◌<◌, ◌^◌, ℕ, List, Some, sym, subst}
use Rattle.nomos_ir.specs.declared.declaration.ProcDecl.{ProcDecl}
use Rattle.nomos_types.specs.Acceptance.{Acceptance, IsAccepted}
use Rattle.nomos_machine.specs.Opening.{OpensTalk}
use Rattle.nomos_machine.specs.Run.{IsQuiet}
use Rattle.nomos_machine.specs.State.{State, gas_of}
use Rattle.nomos_machine.specs.TypedState.{IsTyped}
use Rattle.nomos_equality.specs.Carriers.{CarriesNothing}
use Rattle.nomos_ready.specs.Covering.{Covers, IsFollowed, IsNoted, MayBeReady}
use Rattle.nomos_ready.specs.declared.awake.Awake.{Awake}
use Rattle.nomos_ready.proofs.BeginLaws.{begun-covers}
use Rattle.nomos_monitor.specs.TalkOpening.{CanOpenBy, OpensNamed}
use Rattle.nomos_monitor.specs.Talks.{IsTalk}
use Rattle.nomos_monitor.proofs.TalkingLaws.{opens-talk}
use Rattle.nomos_monitor.proofs.WakingLaws.{opened-grown}

one-declaration : {d e : ProcDecl} → Some d ≡ Some e → d ≡ e
one-declaration is = cc

module _ {a : Acceptance} {s : State} {name : List ℕ} {account : ℕ} where
  pub opens-named : {t : State} {number : ℕ} → CanOpenBy a s name account number → OpensTalk a s number account t
      → OpensNamed a s name account t
  opens-named {t} {number} by opens = record {
    number = number;
    opens = opens;
    named = subst (λ (d : ProcDecl). d.name ≡ name) same by.named;
    alone = subst (λ (d : ProcDecl). CarriesNothing a.program d.offers) same by.alone;
  }
    where
      same : by.can.declaration ≡ opens.can.declaration
      same = one-declaration (sym by.can.opener.declared ∙ opens.can.opener.declared)

  pub named-talk : {t : State} → IsAccepted a → IsTyped a s → gas_of s < 2 ^ 96 → OpensNamed a s name account t
      → IsTalk a t account
  named-talk {t} accepted typed gas opens = opens-talk accepted s t opens.number typed gas opens.opens opens.alone

-- where no process was ready, those from the new one on are all that may be
pub opened-covers : {a : Acceptance} → IsAccepted a → {s t : State} {number account : ℕ} → IsTyped a s → IsTyped a t
    → OpensTalk a s number account t → IsQuiet a s → (w : Awake) (first first_name : ℕ) → first ≡ s.next_object
    → first_name ≡ s.next_name → ((q : ℕ) → first ≤ q → q < t.next_object → MayBeReady w q)
    → ((name : ℕ) → IsFollowed w name → first_name ≤ name) → ((name q : ℕ) → IsNoted w name q → ⊥) → Covers a t w
opened-covers accepted {s} {t} typed_s typed_t opens quiet w first first_name is_first is_name woken followed noted =
    begun-covers accepted typed_s typed_t (opened-grown opens) quiet w
    (subst (λ (n : ℕ). (q : ℕ) → n ≤ q → q < t.next_object → MayBeReady w q) is_first woken)
    (subst (λ (n : ℕ). (name : ℕ) → IsFollowed w name → n ≤ name) is_name followed) noted
