use Rattle.std.proofs.Common.{◌≡◌, ◌≤◌, ◌-◌, None}
use Rattle.nomos_state.proofs.SpanLemmas.{IsDoneBelow}
use Rattle.nomos_state.proofs.span.drop_span.Given as goal

abbrev pub invariant-loop-variable : goal.invariant-loop-variable
invariant-loop-variable l = record {
  done : IsDoneBelow (λ _. None) l.process l.fn.channels.now l.variable l.channels.now;
  marked : l.channels.marked ≡ l.fn.channels.marked;
  room : l.fn.channels.room ≤ l.channels.room;
}

abbrev pub decreases-loop-variable : goal.decreases-loop-variable
decreases-loop-variable l = l.within.high - l.variable
