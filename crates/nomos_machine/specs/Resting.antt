-- How firings come to rest that the policy `First` chooses.
use Rattle.std.specs.Prelude.{◌≡◌, ◌<◌, ◌≤◌, ℕ, List, length, Some}
use Rattle.nomos_types.specs.Acceptance.{Acceptance}
use Rattle.nomos_machine.specs.Policies.{IsRunOf}
use Rattle.nomos_machine.specs.Run.{IsNextReady, IsQuiet}
use Rattle.nomos_machine.specs.State.{State}
use Rattle.nomos_machine.specs.Step.{fault}
use Rattle.nomos_machine.specs.declared.policy.Policy.TheVariants as policy
use Rattle.nomos_machine.specs.declared.rest.Rest.{Rest}
use Rattle.nomos_machine.specs.declared.rest.Rest.TheVariants as rest

-- where so many firings of at most so many were made, the state that is left is at rest in this way
abbrev pub RestsSo : Acceptance → ℕ → ℕ → State → Rest → Type 0
RestsSo a made limit s rest.Quiet = IsQuiet a s
RestsSo a made limit s (rest.Faulted pid f) = (made < limit) × IsNextReady a s 0 pid × (fault a s pid ≡ Some f)
RestsSo a made limit s rest.Steps = (made ≡ limit) × (¬ (IsQuiet a s))

-- So many firings of the lowest ready process lead from the one state to the other, at most as many as may be; and
-- there it is at rest.
pub record ComesToRest (a : Acceptance) (limit : ℕ) (s : State) (made : ℕ) (how : Rest) (t : State) : Type 0 where
  pub pids : List ℕ
  pub run : IsRunOf policy.First a s pids t
  pub count : made ≡ length pids
  pub few : made ≤ limit
  pub at_rest : RestsSo a made limit t how
