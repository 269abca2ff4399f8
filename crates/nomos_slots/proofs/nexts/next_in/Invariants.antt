use Rattle.std.proofs.Common.{◌≤◌}
use Rattle.nomos_slots.proofs.NextLemmas.{IsClearTo}
use Rattle.nomos_slots.proofs.nexts.next_in.Given as goal

abbrev pub invariant-loop-at : goal.invariant-loop-at
invariant-loop-at l = record {
  over : l.from ≤ l.next;
  within : l.next ≤ l.end;
  clear : IsClearTo l.homes l.process l.from l.next l.cells.now l.at;
}
