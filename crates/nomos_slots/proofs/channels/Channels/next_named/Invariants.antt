use Rattle.std.proofs.Common.{◌≡◌, ◌≤◌, ◌<◌, ◌-◌, ℕ, None}
use Rattle.nomos_slots.specs.Cells.{name_in}
use Rattle.nomos_slots.proofs.channels.Channels.next_named.Given as goal

abbrev pub invariant-loop-variable : goal.invariant-loop-variable
invariant-loop-variable l = record {
  over : l.from ≤ l.variable;
  within : l.from ≤ l.limit → l.variable ≤ l.limit;
  none : (v : ℕ) → l.from ≤ v → v < l.variable → name_in l.self.now l.process v ≡ None;
}

abbrev pub decreases-loop-variable : goal.decreases-loop-variable
decreases-loop-variable l = l.limit - l.variable
