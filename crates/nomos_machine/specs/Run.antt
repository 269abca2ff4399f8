-- Runs, and which process is the next one that is ready.
use Rattle.std.specs.Prelude.{ℕ, ◌<◌, List, [], ◌∷◌, Option, Some}
use Rattle.nomos_types.specs.Acceptance.{Acceptance}
use Rattle.nomos_machine.specs.Optional.{◌>>=◌}
use Rattle.nomos_machine.specs.State.{State}
use Rattle.nomos_machine.specs.Step.{step, IsReady}

-- the lowest ready process over a number
pub record IsNextReady (a : Acceptance) (s : State) (after pid : ℕ) : Type 0 where
  pub over : after < pid
  pub ready : IsReady a s pid
  pub lowest : (q : ℕ) → after < q → q < pid → ¬ IsReady a s q

-- no process over a number is ready
abbrev pub NoneReady : Acceptance → State → ℕ → Type 0
NoneReady a s after = (q : ℕ) → after < q → ¬ IsReady a s q

-- no process is ready
abbrev pub IsQuiet : Acceptance → State → Type 0
IsQuiet a s = (q : ℕ) → ¬ IsReady a s q

-- The state after the firings of these processes, one after another, or none where one of them has no step.
abbrev pub run : Acceptance → State → List ℕ → Option State
run a s [] = Some s
run a s (pid ∷ pids) = step a s pid >>= λ next. run a next pids
