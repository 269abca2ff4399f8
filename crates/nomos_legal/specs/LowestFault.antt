-- Which processes of a state have a fault: none, or the lowest one.
use Rattle.std.specs.Prelude.{◌≡◌, ℕ, ◌<◌, Some, None}
use Rattle.nomos_ir.specs.declared.fault.Fault.{Fault}
use Rattle.nomos_types.specs.Acceptance.{Acceptance}
use Rattle.nomos_machine.specs.State.{State}
use Rattle.nomos_machine.specs.Step.{fault}

-- no process has a fault
abbrev pub IsFaultless : Acceptance → State → Type 0
IsFaultless a s = (q : ℕ) → fault a s q ≡ None

-- the lowest process that has a fault, and that fault
pub record IsLowestFault (a : Acceptance) (s : State) (pid : ℕ) (f : Fault) : Type 0 where
  pub has : fault a s pid ≡ Some f
  pub lowest : (q : ℕ) → q < pid → fault a s q ≡ None
