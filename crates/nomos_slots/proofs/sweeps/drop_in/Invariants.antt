use Rattle.std.proofs.Common.{◌≡◌, ◌≢◌, ◌+◌, ℕ, length}
use Rattle.nomos_slots.specs.Cells.{IsProbed, entries, name_in}
use Rattle.nomos_slots.proofs.sweeps.drop_in.Given as goal

abbrev pub invariant-loop-entry : goal.invariant-loop-entry
invariant-loop-entry l = record {
  probed : IsProbed l.homes l.cells.now;
  names : (p v : ℕ) → l.process ≢ p → name_in l.cells.now p v ≡ name_in l.fn.cells.now p v;
  entries : entries l.cells.now + l.count ≡ entries l.fn.cells.now;
  len : length l.cells.now ≡ length l.fn.cells.now;
  marked : l.cells.marked ≡ l.fn.cells.marked;
  seats : l.cells.seats ≡ l.fn.cells.seats;
}

abbrev pub decreases-loop-entry : goal.decreases-loop-entry
decreases-loop-entry l = entries l.cells.now
