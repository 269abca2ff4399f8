use Rattle.std.proofs.Common.{◌≡◌, ◌≤◌, ◌-◌}
use Rattle.std.specs.Option.{option_map}
use Rattle.nomos_slots.specs.Sweeps.{instead_of}
use Rattle.nomos_state.proofs.SpanLemmas.{IsDoneBelow}
use Rattle.nomos_state.proofs.span.rename_span.Given as goal

abbrev pub invariant-loop-variable : goal.invariant-loop-variable
invariant-loop-variable l = record {
  done : IsDoneBelow (option_map (instead_of l.old l.new)) l.process l.fn.channels.now l.variable l.channels.now;
  marked : l.channels.marked ≡ l.fn.channels.marked;
  room : l.fn.channels.room ≤ l.channels.room;
}

abbrev pub decreases-loop-variable : goal.decreases-loop-variable
decreases-loop-variable l = l.within.high - l.variable
