-- What the calls of a talk keep.
use Rattle.std.proofs.Common.{◌≡◌, ◌∙◌, ◌≤◌, ℕ, List, length, Option, Some, None, Result, Ok, Err, IfOk, OnErr, OnOk, slice_get, slice_index, sym, subst, ap}
use Rattle.std.specs.Option.{unwrap_or}
use Rattle.std.proofs.lemmas.Option.{unwrap_or-slice_get}
use Rattle.nomos_types.specs.Acceptance.{Acceptance, IsAccepted}
use Rattle.nomos_machine.specs.Hearing.{AnswersHearing}
use Rattle.nomos_machine.specs.Saying.{CanSay, MaySayWith, Says}
use Rattle.nomos_machine.specs.State.{State}
use Rattle.nomos_machine.specs.TypedState.{IsTyped}
use Rattle.nomos_machine.specs.declared.object.Heard.{Heard}
use Rattle.nomos_machine.specs.declared.object.Said.{Said}
use Rattle.nomos_machine.proofs.OutsideTalkLaws.{hears-ends, talk-ends, talk-goes_on, talk-not_wrong}
use Rattle.nomos_deeds.specs.Acting.{HasNumbers}
use Rattle.nomos_deeds.specs.Firings.{MayFire}
use Rattle.nomos_ready.specs.declared.awake.Awake.{Awake}
use Rattle.nomos_monitor.specs.Talks.{EndsBy, GoesWell, IsTalk}
use Rattle.nomos_monitor.specs.Watching.{IsWatched}
use Rattle.nomos_monitor.proofs.TalkingLaws.{hears-talk, says-talk, talk-stays}
use Rattle.nomos_monitor.proofs.WakingLaws.{heard-watched}

pub talk-may_fire : {a : Acceptance} {s : State} {account : ℕ} → IsTalk a s account → HasNumbers s → MayFire a s
talk-may_fire talk numbers = record { typed = talk.party.typed; gas = talk.gas; numbers = numbers }

pub talk-can_say : {a : Acceptance} {s : State} {account gas : ℕ} {what : Said} → IsTalk a s account
    → MaySayWith a s what gas → gas ≤ slice_index s.balances account → CanSay a s account what
talk-can_say {gas = gas} talk may enough = record { gas = gas; may = may; has = (talk.party.its_account, enough) }

pub has-balance : (balances : List ℕ) (account has : ℕ) → has ≡ unwrap_or (slice_get balances account) 0
    → has ≡ slice_index balances account
has-balance balances account has is = is ∙ unwrap_or-slice_get balances account 0

-- whatever is said, heard and fired from here on
pub goes-well : {a : Acceptance} → IsAccepted a → {s : State} {account : ℕ} → IsTalk a s account → GoesWell a account s
goes-well accepted {s} talk closed t calls = record {
  talk = talk-stays accepted closed s t talk calls;
  right = talk-not_wrong accepted closed s t talk.party calls;
  gas = (talk-goes_on accepted closed s t talk.party calls).gas;
  ends = talk-ends accepted closed s t talk.party calls;
}

-- ---- what is heard

pub heard-talk : {a : Acceptance} → IsAccepted a → {s t : State} {account : ℕ} (heard : Option Heard)
    → IsTalk a s account → AnswersHearing s account heard t → IsTalk a t account
heard-talk {a} accepted {account = account} None talk answer =
    subst (λ (u : State). IsTalk a u account) (sym answer.1) talk
heard-talk accepted {s} {t} (Some what) talk answer = hears-talk accepted s t what talk answer

pub heard-ends : {a : Acceptance} → IsAccepted a → (s t : State) (account : ℕ) (heard : Option Heard)
    → IsTalk a s account → AnswersHearing s account heard t → EndsBy heard s t
heard-ends accepted s t account None talk answer = ap (λ (u : State). length u.outside) answer.1
heard-ends accepted s t account (Some what) talk answer = hears-ends accepted s t what talk.party answer

module _ {E : Type 0} {a : Acceptance} (accepted : IsAccepted a) (s t : State) (account : ℕ) where
  pub answer-watched : IsTyped a s → IsTyped a t → (result : Result (Option Heard) E)
      → IfOk result (λ heard. AnswersHearing s account heard t) → OnErr result (t ≡ s) → (awake : Option Awake)
      → IsWatched a s awake → IsWatched a t awake
  answer-watched typed_s typed_t (Ok heard) answer same awake watched =
      heard-watched accepted account typed_s typed_t heard answer awake watched
  answer-watched typed_s typed_t (Err e) answer same awake watched =
      subst (λ (u : State). IsWatched a u awake) (sym same) watched

  pub answer-talk : (result : Result (Option Heard) E) → IfOk result (λ heard. AnswersHearing s account heard t)
      → OnErr result (t ≡ s) → IsTalk a s account → IsTalk a t account
  answer-talk (Ok heard) answer same talk = heard-talk accepted heard talk answer
  answer-talk (Err e) answer same talk = subst (λ (u : State). IsTalk a u account) (sym same) talk

  pub answer-ends : (result : Result (Option Heard) E) → IfOk result (λ heard. AnswersHearing s account heard t)
      → IsTalk a s account → IfOk result (λ heard. EndsBy heard s t)
  answer-ends (Ok heard) answer talk = heard-ends accepted s t account heard talk answer
  answer-ends (Err e) answer talk = tt

-- ---- what is said

pub said-talk : {E : Type 0} {a : Acceptance} → IsAccepted a → (s t : State) (account : ℕ) (what : Said)
    (result : Result (Unit {0}) E) → OnOk result (Says a s account what t) → OnErr result (t ≡ s) → IsTalk a s account
    → IsTalk a t account
said-talk accepted s t account what (Ok done) says same talk = says-talk accepted s t what talk says
said-talk {a = a} accepted s t account what (Err e) says same talk =
    subst (λ (u : State). IsTalk a u account) (sym same) talk
