use Rattle.std.proofs.Common.{◌-◌, ◌≤◌, ◌+◌, length}
use Rattle.nomos_slots.proofs.NumberLaws.{BelowAre}
use Rattle.nomos_state.proofs.numbers_over.start_over.Given as goal

-- the numbers at the first places are not over it
abbrev pub invariant-loop-from : goal.invariant-loop-from
invariant-loop-from g l = record {
  ordered : l.from ≤ l.to;
  within : l.to ≤ length l.slots.now;
  below : BelowAre l.slots.now l.from (l.after + 1);
}

abbrev pub decreases-loop-from : goal.decreases-loop-from
decreases-loop-from g l = l.to - l.from
