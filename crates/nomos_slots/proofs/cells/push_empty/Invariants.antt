use Rattle.std.proofs.Common.{◌≡◌, ◌≤◌, ◌+◌, ℕ, None, length}
use Rattle.nomos_slots.specs.Cells.{cell_at}
use Rattle.nomos_slots.proofs.cells.push_empty.Given as goal

abbrev pub invariant-loop : goal.invariant-loop
invariant-loop l = record {
  len : length l.cells.now ≡ l.counter;
  empty : (place : ℕ) → cell_at l.cells.now place ≡ None;
  room : l.count ≤ l.cells.room + l.counter;
  seats : l.cells.seats ≡ l.fn.cells.seats;
  marked : l.cells.marked ≡ l.fn.cells.marked;
}
