-- Before the one place the variables are lower, from the other one on they are higher.
use Rattle.std.proofs.Common.{◌-◌, ◌≤◌}
use Rattle.nomos_eval.proofs.AscendingLemmas.{AreLower, AreHigher}
use Rattle.nomos_eval.proofs.ascending.halved.Given as goal

abbrev pub invariant-loop-from : goal.invariant-loop-from
invariant-loop-from g l = record {
  within : l.to ≤ l.known;
  lower : AreLower l.pairs l.v l.from;
  higher : AreHigher l.pairs l.v l.to l.known;
}

abbrev pub decreases-loop-from : goal.decreases-loop-from
decreases-loop-from g l = l.to - l.from
