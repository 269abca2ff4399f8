use Rattle.std.proofs.Common.{◌≡◌, ◌≤◌, ◌<◌, ◌-◌, ℕ, Some, None}
use Rattle.nomos_slots.specs.Cells.{name_in}
use Rattle.nomos_state.specs.Spanning.{HasVariable}
use Rattle.nomos_state.proofs.span.next_in.Given as goal

abbrev pub invariant-loop-variable : goal.invariant-loop-variable
invariant-loop-variable l = record {
  over : l.from ≤ l.variable;
  within : l.from ≤ l.span.high → l.variable ≤ l.span.high;
  none : (v : ℕ) → l.from ≤ v → v < l.variable → HasVariable (Some l.span) v
      → name_in l.channels.now l.process v ≡ None;
}

abbrev pub decreases-loop-variable : goal.decreases-loop-variable
decreases-loop-variable l = l.span.high - l.variable
