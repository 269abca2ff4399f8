use Rattle.std.proofs.Common.{◌≡◌, ◌<◌, ℕ, None, length}
use Rattle.nomos_slots.specs.Cells.{cell_at}
use Rattle.nomos_slots.proofs.cells.empty_all.Given as goal

abbrev pub invariant-loop-at : goal.invariant-loop-at
invariant-loop-at l = record {
  len : length l.cells.now ≡ length l.fn.cells.now;
  empty : (place : ℕ) → place < l.at → cell_at l.cells.now place ≡ None;
  seats : l.cells.seats ≡ l.fn.cells.seats;
  marked : l.cells.marked ≡ l.fn.cells.marked;
}
