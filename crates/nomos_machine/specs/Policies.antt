-- Which process a policy chooses, and when firings follow it.
use Rattle.std.specs.Prelude.{◌≡◌, ◌⊎◌, ℕ, List, [], ◌∷◌, Some}
use Rattle.nomos_types.specs.Acceptance.{Acceptance}
use Rattle.nomos_machine.specs.Run.{IsNextReady, NoneReady}
use Rattle.nomos_machine.specs.State.{State}
use Rattle.nomos_machine.specs.Step.{step}
use Rattle.nomos_machine.specs.declared.policy.Policy.{Policy}
use Rattle.nomos_machine.specs.declared.policy.Policy.TheVariants as policy

-- The policy chooses this process where that of the other number fired last, or none did, which is 0. `First` takes the
-- lowest that is ready; `Round` the lowest over the last one, and the lowest of all where none is over it.
abbrev pub IsChosen : Policy → Acceptance → State → ℕ → ℕ → Type 0
IsChosen policy.First a s last pid = IsNextReady a s 0 pid
IsChosen policy.Round a s last pid = IsNextReady a s last pid ⊎ (NoneReady a s last × IsNextReady a s 0 pid)

-- From the first state, where the process of the first number fired last, these processes fire one after another, each
-- as the policy chooses. They lead to the second state, where that of the second number fired last.
pub data FollowsPolicy (policy : Policy) (a : Acceptance) : State → ℕ → List ℕ → State → ℕ → Type 0 where
  done : (s : State) (last : ℕ) → FollowsPolicy policy a s last [] s last
  fires : (s t u : State) (last pid end : ℕ) (pids : List ℕ) → IsChosen policy a s last pid → step a s pid ≡ Some t
      → FollowsPolicy policy a t pid pids u end → FollowsPolicy policy a s last (pid ∷ pids) u end

-- the firings of a batch, from its start to this state, are those that the policy chooses
pub record IsRunOf (policy : Policy) (a : Acceptance) (start : State) (pids : List ℕ) (state : State) : Type 0 where
  pub last : ℕ
  pub follows : FollowsPolicy policy a start 0 pids state last

-- and there it chooses this process
pub record IsChosenAfter (policy : Policy) (a : Acceptance) (start : State) (pids : List ℕ) (state : State) (pid : ℕ)
    : Type 0 where
  pub last : ℕ
  pub follows : FollowsPolicy policy a start 0 pids state last
  pub chosen : IsChosen policy a state last pid
