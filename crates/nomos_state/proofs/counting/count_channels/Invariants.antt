use Rattle.std.proofs.Common.{◌≡◌, ◌≤◌, ◌<◌, ◌-◌, Some}
use Rattle.nomos_ir.specs.Bindings.{IsAscending}
use Rattle.nomos_machine.specs.State.{process_at}
use Rattle.nomos_machine.specs.declared.object.Process.{Process}
use Rattle.nomos_slots.specs.Numbers.{numbers}
use Rattle.nomos_state.specs.Moving.{Moves}
use Rattle.nomos_state.specs.Tallying.{nothing}
use Rattle.nomos_state.proofs.CountLemmas.{so_far}
use Rattle.nomos_state.proofs.counting.count_channels.Given as goal

-- the tallies say more by the channels of the variables so far
abbrev pub invariant-loop-variable : goal.invariant-loop-variable
invariant-loop-variable l = record {
  above : l.span.low ≤ l.variable;
  order : numbers l.tallies.names.now ≡ numbers l.fn.tallies.names.now;
  ascending : (p : Process) → process_at l.inside.state l.pid ≡ Some p → l.span.low < l.variable
      → IsAscending p.channels;
  moves : (p : Process) → process_at l.inside.state l.pid ≡ Some p
      → Moves l.fn.tallies l.tallies nothing (so_far l.span.low (l.variable - l.span.low) p);
}

abbrev pub decreases-loop-variable : goal.decreases-loop-variable
decreases-loop-variable l = l.span.high - l.variable
