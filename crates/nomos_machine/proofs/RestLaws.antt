-- Firings come to rest in one way alone; and they are firings of a talk of an outside party.
use Rattle.std.proofs.Common.{◌≡◌, ◌∙◌, ◌<◌, inl, inr, ℕ, false, List, length, Some, refl, sym, subst, ap, arith}
use Rattle.std.proofs.lemmas.Bool.{cases_lt}
use Rattle.nomos_ir.specs.declared.fault.Fault.{Fault}
use Rattle.nomos_types.specs.Acceptance.{Acceptance}
use Rattle.nomos_machine.specs.OutsideTalk.{TalksTo, done, fires}
use Rattle.nomos_machine.specs.Policies.{FollowsPolicy}
use Rattle.nomos_machine.specs.Policies as policies
use Rattle.nomos_machine.specs.Resting.{RestsSo, ComesToRest}
use Rattle.nomos_machine.specs.Run.{IsNextReady}
use Rattle.nomos_machine.specs.State.{State}
use Rattle.nomos_machine.specs.Step.{step, fault}
use Rattle.nomos_machine.specs.declared.policy.Policy.TheVariants as policy
use Rattle.nomos_machine.specs.declared.rest.Rest.{Rest}
use Rattle.nomos_machine.specs.declared.rest.Rest.TheVariants as rest
use Rattle.nomos_machine.proofs.PolicyLaws.{next_ready-one, follows-one, follows-further}
use Rattle.nomos_machine.proofs.PreservationLaws.{step-or_fault}

-- firings that follow a policy are firings of a talk
pub follows-talks : {a : Acceptance} (account : ℕ) {s t : State} {last end : ℕ} {pids : List ℕ}
    → FollowsPolicy policy.First a s last pids t end → TalksTo a account false s t
follows-talks account (policies.done s last) = done s
follows-talks account (policies.fires s t u last pid end pids chosen steps further) =
    fires false s t u pid steps (follows-talks account further)

pub rest-talks : {a : Acceptance} (account : ℕ) {limit made : ℕ} {s t : State} {how : Rest}
    → ComesToRest a limit s made how t → TalksTo a account false s t
rest-talks account comes = follows-talks account comes.run.follows

module _ (a : Acceptance) (limit : ℕ) where
  -- where it is at rest it does not go on
  rests-stays : (made : ℕ) (t u : State) (how : Rest) (pid : ℕ) → RestsSo a made limit t how → made < limit
      → IsNextReady a t 0 pid → step a t pid ≡ Some u → ⊥
  rests-stays made t u rest.Quiet pid at more next steps = at pid next.ready
  rests-stays made t u (rest.Faulted q f) pid at more next steps =
      let same = next_ready-one next at.1 in
      step-or_fault a t pid u f steps (subst (λ (n : ℕ). fault a t n ≡ Some f) (sym same) at.2)
  rests-stays made t u rest.Steps pid at more next steps = omega (arith, at.0, more)

  one-rest : (made : ℕ) (t : State) (how other : Rest) → RestsSo a made limit t how → RestsSo a made limit t other
      → how ≡ other
  one-rest made t rest.Quiet rest.Quiet at also = refl
  one-rest made t rest.Quiet (rest.Faulted q f) at also = absurd (at q also.1.ready)
  one-rest made t rest.Quiet rest.Steps at also = absurd (also.1 at)
  one-rest made t (rest.Faulted p e) rest.Quiet at also = absurd (also p at.1.ready)
  one-rest made t (rest.Faulted p e) (rest.Faulted q f) at also =
      let same = next_ready-one at.1 also.1 in
      let one : Some e ≡ Some f = sym at.2 ∙ ap (fault a t) same ∙ also.2 in
      let faults : e ≡ f = cc in
      ap (λ (n : ℕ). rest.Faulted n e) same ∙ ap (λ (x : Fault). rest.Faulted q x) faults
  one-rest made t (rest.Faulted p e) rest.Steps at also = absurd (omega (arith, at.0, also.0))
  one-rest made t rest.Steps rest.Quiet at also = absurd (at.1 also)
  one-rest made t rest.Steps (rest.Faulted q f) at also = absurd (omega (arith, at.0, also.0))
  one-rest made t rest.Steps rest.Steps at also = refl

  -- so it comes to rest in one way, after as many firings, and in one state
  pub rest-once : {s t u : State} {made count : ℕ} {how other : Rest} → ComesToRest a limit s made how t
      → ComesToRest a limit s count other u → (made ≡ count) × (how ≡ other) × (t ≡ u)
  rest-once {s} {t} {u} {made} {count} {how} {other} one two =
      elim (cases_lt (length one.pids) (length two.pids)) [
        | inl fewer ↦
            let on = follows-further one.run.follows two.run.follows fewer in
            absurd (rests-stays made t on.next how on.pid one.at_rest
            (omega (arith, fewer, one.count, two.count, two.few)) on.chosen on.steps)
        | inr least ↦ elim (cases_lt (length two.pids) (length one.pids)) [
          | inl fewer ↦
              let on = follows-further two.run.follows one.run.follows fewer in
              absurd (rests-stays count u on.next other on.pid two.at_rest
              (omega (arith, fewer, one.count, two.count, one.few)) on.chosen on.steps)
          | inr most ↦
              let many : length one.pids ≡ length two.pids = omega (arith, least, most) in
              let same : made ≡ count = one.count ∙ many ∙ sym two.count in
              let (pids, state, last) = follows-one one.run.follows two.run.follows many in
              let there : RestsSo a made limit t other =
              subst (λ (n : ℕ). RestsSo a n limit t other) (sym same)
              (subst (λ (v : State). RestsSo a count limit v other) (sym state) two.at_rest)
              in
              (same, one-rest made t how other one.at_rest there, state)
        ]
      ]
