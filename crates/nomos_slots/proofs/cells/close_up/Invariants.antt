use Rattle.std.proofs.Common.{◌≡◌, ◌<◌, ℕ, length}
use Rattle.nomos_slots.specs.Cells.{IsGap, entries, name_in}
use Rattle.nomos_slots.proofs.cells.close_up.Given as goal

abbrev pub invariant-loop-next : goal.invariant-loop-next
invariant-loop-next l = record {
  gap : IsGap l.homes l.cells.now l.hole l.next;
  names : (p v : ℕ) → name_in l.cells.now p v ≡ name_in l.fn.cells.now p v;
  entries : entries l.cells.now ≡ entries l.fn.cells.now;
  len : length l.cells.now ≡ length l.fn.cells.now;
  within : l.hole < length l.cells.now;
  marked : l.cells.marked ≡ l.fn.cells.marked;
  seats : l.cells.seats ≡ l.fn.cells.seats;
}
