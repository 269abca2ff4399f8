-- What firings cost where a `work` of one unit stands before each other instruction.
use Rattle.std.specs.Prelude.{◌≤◌, ℕ, ◌+◌, ◌*◌, ◌-◌, sum_by}
use Rattle.nomos_types.specs.Acceptance.{Acceptance}
use Rattle.nomos_machine.specs.State.{State}
use Rattle.nomos_machine.specs.declared.object.Object.{Object}
use Rattle.nomos_machine.specs.declared.object.Object.TheVariants as object

-- one for a process
abbrev pub counts_process : Object → ℕ
counts_process (object.Process p) = 1
counts_process (object.Message m) = 0

-- how many processes a state has
abbrev pub process_count : State → ℕ
process_count s = sum_by counts_process s.objects

-- So many firings are paid for between the two states: a unit for each of them comes to at most twice the gas spent
-- meanwhile and a unit for each process of the first state.
abbrev pub PaysFor : Acceptance → ℕ → State → State → Type 0
PaysFor a firings s t =
    firings * a.annotations.unit ≤ 2 * (t.spent - s.spent) + a.annotations.unit * process_count s
