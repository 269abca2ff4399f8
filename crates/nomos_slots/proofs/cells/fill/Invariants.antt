use Rattle.std.proofs.Common.{◌≡◌, ◌≤◌, ℕ, length, take}
use Rattle.nomos_slots.specs.Cells.{IsProbed, entries, name_in}
use Rattle.nomos_slots.proofs.cells.fill.Given as goal

abbrev pub invariant-loop-at : goal.invariant-loop-at
invariant-loop-at l = record {
  probed : IsProbed l.homes l.cells.now;
  names : (p v : ℕ) → name_in l.cells.now p v ≡ name_in (take l.at l.from.now) p v;
  count : l.count ≡ entries l.cells.now;
  few : l.count ≤ entries (take l.at l.from.now);
  len : length l.cells.now ≡ length l.fn.cells.now;
  marked : l.cells.marked ≡ l.fn.cells.marked;
  seats : l.cells.seats ≡ l.fn.cells.seats;
}
