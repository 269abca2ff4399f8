-- Runs of an accepted program.
use Rattle.std.specs.Prelude.{◌≡◌, ◌<◌, ◌+◌, ◌*◌, ◌^◌, ◌-◌, ℕ, []}
use Rattle.nomos_ir.specs.declared.declaration.ProcDecl.{ProcDecl}
use Rattle.nomos_ir.specs.declared.mode.Mode.TheVariants as mode
use Rattle.nomos_types.specs.Acceptance.{Acceptance, IsAccepted}
use Rattle.nomos_machine.specs.State.{State, gas_of}
use Rattle.nomos_machine.specs.TypedState.{IsTyped}

-- A program, a state of it, and how many calls may still be made that fire, start or open an account.
pub record Running : Type 0 where
  pub accepted : Acceptance
  pub state : State
  pub left : ℕ

-- The state is typed, and far enough from the greatest numbers for these calls. Each brings less than 2 ^ 64 Dths.
pub record GoesOn (r : Running) : Type 0 where
  pub accepted : IsAccepted r.accepted
  pub typed : IsTyped r.accepted r.state
  pub gas : gas_of r.state + r.left * 2 ^ 64 < 2 ^ 96
  pub objects : r.state.next_object + r.left < 2 ^ 32 - 1
  pub names : r.state.next_name + r.left < 2 ^ 32 - 1

-- It declares a transaction with no parameters.
pub record TakesNothing (d : ProcDecl) : Type 0 where
  pub its_mode : d.mode ≡ mode.T
  pub values : d.values ≡ []
  pub channels : d.channels ≡ []
