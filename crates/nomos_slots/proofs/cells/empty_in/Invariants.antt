use Rattle.std.proofs.Common.{◌≡◌, ◌≤◌, ◌<◌, ℕ, true}
use Rattle.nomos_slots.specs.Cells.{is_filled}
use Rattle.nomos_slots.proofs.cells.empty_in.Given as goal

abbrev pub invariant-loop-at : goal.invariant-loop-at
invariant-loop-at l = (i : ℕ) → l.from ≤ i → i < l.at → is_filled l.cells.now i ≡ true
