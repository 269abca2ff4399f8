-- Processes among objects, walked over in order of number.
use Rattle.std.specs.Prelude.{◌&&◌, nat_lt, ℕ, Bool, false}
use Rattle.std.specs.Option.{is_some}
use Rattle.nomos_types.specs.Acceptance.{Acceptance}
use Rattle.nomos_machine.specs.State.{State}
use Rattle.nomos_machine.specs.declared.object.Object.{Object}
use Rattle.nomos_machine.specs.declared.object.Object.TheVariants as object
use Rattle.nomos_machine.specs.declared.object.Process.{Process}
use Rattle.nomos_deeds.specs.Acts.{looks_ready_at}
use Rattle.nomos_deeds.specs.Readers.{acquires, is_of_mode_t}

-- whether an object is a process over a number, and passes a test
abbrev pub is_over : ℕ → (Process → Bool) → Object → Bool
is_over after test (object.Process p) = nat_lt after p.pid && test p
is_over after test (object.Message m) = false

-- whether the process is ready in a state, has mode T, waits for a shared name
abbrev pub is_ready_in : Acceptance → State → Process → Bool
is_ready_in a s p = looks_ready_at a s p.pid

abbrev pub is_transaction : Process → Bool
is_transaction p = is_of_mode_t p.mode

abbrev pub is_acquiring : Acceptance → Process → Bool
is_acquiring a p = is_some (acquires a p)
