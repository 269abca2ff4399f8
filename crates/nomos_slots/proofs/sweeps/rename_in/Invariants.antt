use Rattle.std.proofs.Common.{◌≡◌}
use Rattle.nomos_slots.specs.Sweeps.{renamed_cell}
use Rattle.nomos_slots.proofs.ChangedLaws.{changed_first}
use Rattle.nomos_slots.proofs.sweeps.rename_in.Given as goal

abbrev pub invariant-loop-at : goal.invariant-loop-at
invariant-loop-at l = record {
  now : l.cells.now ≡ changed_first (renamed_cell l.process l.old l.new) l.at l.fn.cells.now;
  marked : l.cells.marked ≡ l.fn.cells.marked;
  seats : l.cells.seats ≡ l.fn.cells.seats;
}
