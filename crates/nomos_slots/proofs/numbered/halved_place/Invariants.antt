use Rattle.std.proofs.Common.{◌-◌, ◌≤◌, length}
use Rattle.nomos_slots.proofs.NumberLaws.{BelowAre, OnwardsAre}
use Rattle.nomos_slots.proofs.numbered.halved_place.Given as goal

abbrev pub invariant-loop-from : goal.invariant-loop-from
invariant-loop-from g l = record {
  within : l.to ≤ length l.slots.now;
  below : BelowAre l.slots.now l.from l.number;
  onwards : OnwardsAre l.slots.now l.to l.number;
}

abbrev pub decreases-loop-from : goal.decreases-loop-from
decreases-loop-from g l = l.to - l.from
