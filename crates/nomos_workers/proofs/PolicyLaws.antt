-- Firings that follow a policy, with one more.
use Rattle.std.proofs.Common.{◌≡◌, ℕ, List, [], ◌∷◌, ◌++◌, Some, inl, inr}
use Rattle.nomos_types.specs.Acceptance.{Acceptance}
use Rattle.nomos_machine.specs.Policies.{FollowsPolicy, IsChosen}
use Rattle.nomos_machine.specs.Policies as policies
use Rattle.nomos_machine.specs.State.{State}
use Rattle.nomos_machine.specs.Step.{step, IsReady}
use Rattle.nomos_machine.specs.declared.policy.Policy.{Policy}
use Rattle.nomos_machine.specs.declared.policy.Policy.TheVariants as policy

-- one more firing, as the policy chooses
pub follows-push : {p : Policy} {a : Acceptance} {s t u : State} {last end : ℕ} {pids : List ℕ} (pid : ℕ)
    → FollowsPolicy p a s last pids t end → IsChosen p a t end pid → step a t pid ≡ Some u
    → FollowsPolicy p a s last (pids ++ pid ∷ []) u pid
follows-push {u = u} pid (policies.done s last) chosen steps =
    policies.fires s u u last pid pid [] chosen steps (policies.done u pid)
follows-push pid (policies.fires s v t last first end pids chosen_first steps_first rest) chosen steps =
    policies.fires s v _ last first _ _ chosen_first steps_first (follows-push pid rest chosen steps)

-- the process that is chosen is ready
pub chosen-ready : (p : Policy) (a : Acceptance) (s : State) (last pid : ℕ) → IsChosen p a s last pid → IsReady a s pid
chosen-ready policy.First a s last pid next = next.ready
chosen-ready policy.Round a s last pid (inl next) = next.ready
chosen-ready policy.Round a s last pid (inr both) = both.1.ready
