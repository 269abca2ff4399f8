-- What a policy chooses is one process, and firings that follow a policy are a run that it determines.
use Rattle.std.proofs.Common.{◌≡◌, ◌∙◌, ◌<◌, inl, inr, ℕ, List, [], ◌∷◌, ◌++◌, length, Option, Some, refl, sym, subst, ap, arith}
use Rattle.std.proofs.lemmas.Bool.{cases_lt}
use Rattle.std.proofs.lemmas.Option.{same_Some}
use Rattle.nomos_types.specs.Acceptance.{Acceptance}
use Rattle.nomos_machine.specs.Optional.{◌>>=◌}
use Rattle.nomos_machine.specs.Policies.{IsChosen, FollowsPolicy, IsRunOf, IsChosenAfter}
use Rattle.nomos_machine.specs.Policies as policies
use Rattle.nomos_machine.specs.Run.{IsNextReady, run}
use Rattle.nomos_machine.specs.State.{State}
use Rattle.nomos_machine.specs.Step.{step}
use Rattle.nomos_machine.specs.declared.policy.Policy.{Policy}
use Rattle.nomos_machine.specs.declared.policy.Policy.TheVariants as policy

-- the lowest ready process over a number is one
pub next_ready-one : {a : Acceptance} {s : State} {after p q : ℕ} → IsNextReady a s after p → IsNextReady a s after q
    → p ≡ q
next_ready-one {p = p} {q = q} one other =
    elim (cases_lt p q) [
      | inl below ↦ absurd (other.lowest p one.over below one.ready)
      | inr least ↦ elim (cases_lt q p) [
        | inl over ↦ absurd (one.lowest q other.over over other.ready)
        | inr most ↦ omega (arith, least, most)
      ]
    ]

-- a policy chooses one process
pub chosen-one : (kind : Policy) (a : Acceptance) (s : State) (last p q : ℕ) → IsChosen kind a s last p
    → IsChosen kind a s last q → p ≡ q
chosen-one policy.First a s last p q one other = next_ready-one one other
chosen-one policy.Round a s last p q (inl one) (inl other) = next_ready-one one other
chosen-one policy.Round a s last p q (inr one) (inr other) = next_ready-one one.1 other.1
chosen-one policy.Round a s last p q (inl one) (inr other) = absurd (other.0 p one.over one.ready)
chosen-one policy.Round a s last p q (inr one) (inl other) = absurd (one.0 q other.over other.ready)

module _ {a : Acceptance} where
  -- firings that follow a policy are a run
  pub follows-run : {kind : Policy} {s t : State} {last end : ℕ} {pids : List ℕ}
      → FollowsPolicy kind a s last pids t end
      → run a s pids ≡ Some t
  follows-run (policies.done s last) = refl
  follows-run (policies.fires s t u last pid end pids chosen steps rest) =
      ap (λ (o : Option State). o >>= λ next. run a next pids) steps ∙ follows-run rest

  -- one more firing of the process that it chooses
  pub follows-push : {kind : Policy} {s t u : State} {last end : ℕ} {pids : List ℕ} (pid : ℕ)
      → FollowsPolicy kind a s last pids t end → IsChosen kind a t end pid → step a t pid ≡ Some u
      → FollowsPolicy kind a s last (pids ++ pid ∷ []) u pid
  follows-push {u = u} pid (policies.done s last) chosen steps =
      policies.fires s u u last pid pid [] chosen steps (policies.done u pid)
  follows-push pid (policies.fires s v w last first end pids chosen_first steps_first rest) chosen steps =
      policies.fires s v _ last first pid _ chosen_first steps_first (follows-push pid rest chosen steps)

  -- so many firings that follow it are these, and lead to one state
  pub follows-one : {kind : Policy} {s t u : State} {last end other : ℕ} {pids more : List ℕ}
      → FollowsPolicy kind a s last pids t end → FollowsPolicy kind a s last more u other → length pids ≡ length more
      → (pids ≡ more) × (t ≡ u) × (end ≡ other)
  follows-one (policies.done s last) (policies.done s_other last_other) same = (refl, refl, refl)
  follows-one (policies.done s last) (policies.fires s_other v w last_other pid end pids chosen steps rest) same =
      absurd (omega (arith, same))
  follows-one (policies.fires s t u last pid end pids chosen steps rest) (policies.done s_other last_other) same =
      absurd (omega (arith, same))
  follows-one {kind = kind} (policies.fires s t u last pid end pids chosen steps rest)
      (policies.fires s_other v w last_other next other more chosen_other steps_other rest_other) same =
      let first : next ≡ pid = chosen-one kind a s last next pid chosen_other chosen in
      let state : v ≡ t = same_Some v t (sym steps_other ∙ ap (step a s) first ∙ steps) in
      let onward = subst (λ (x : State). FollowsPolicy kind a x pid more w other) state
      (subst (λ (n : ℕ). FollowsPolicy kind a v n more w other) first rest_other) in
      let (others, last_state, last_one) = follows-one rest onward (omega (arith, same)) in
      ((λ i. sym first i ∷ others i), last_state, last_one)

  -- where firings follow a policy, what it chooses next is one process
  pub chosen_after-one : {kind : Policy} {s t : State} {pids : List ℕ} {p q : ℕ} → IsChosenAfter kind a s pids t p
      → IsChosenAfter kind a s pids t q → p ≡ q
  chosen_after-one {kind} {t = t} {p = p} {q = q} one other =
      let (pids, state, last) = follows-one one.follows other.follows refl in
      chosen-one kind a t other.last p q (subst (λ (n : ℕ). IsChosen kind a t n p) last one.chosen) other.chosen

-- the process that is chosen has a step
pub record Continues (kind : Policy) (a : Acceptance) (s : State) (last : ℕ) : Type 0 where
  pub pid : ℕ
  pub next : State
  pub chosen : IsChosen kind a s last pid
  pub steps : step a s pid ≡ Some next

module _ {a : Acceptance} where
  -- where more firings follow it from the same state, it goes on after the fewer ones
  pub follows-further : {kind : Policy} {s t u : State} {last end other : ℕ} {pids more : List ℕ}
      → FollowsPolicy kind a s last pids t end → FollowsPolicy kind a s last more u other → length pids < length more
      → Continues kind a t end
  follows-further (policies.done s last) (policies.done s_other last_other) fewer = absurd (omega (arith, fewer))
  follows-further (policies.done s last) (policies.fires s_other v w last_other pid end pids chosen steps rest) fewer =
      record { pid = pid; next = v; chosen = chosen; steps = steps }
  follows-further (policies.fires s t u last pid end pids chosen steps rest) (policies.done s_other last_other) fewer =
      absurd (omega (arith, fewer))
  follows-further {kind = kind} (policies.fires s t u last pid end pids chosen steps rest)
      (policies.fires s_other v w last_other next other more chosen_other steps_other rest_other) fewer =
      let first : next ≡ pid = chosen-one kind a s last next pid chosen_other chosen in
      let state : v ≡ t = same_Some v t (sym steps_other ∙ ap (step a s) first ∙ steps) in
      let onward = subst (λ (x : State). FollowsPolicy kind a x pid more w other) state
      (subst (λ (n : ℕ). FollowsPolicy kind a v n more w other) first rest_other) in
      follows-further rest onward (omega (arith, fewer))
