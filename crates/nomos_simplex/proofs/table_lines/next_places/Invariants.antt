use Rattle.std.proofs.Common.{◌≡◌, ◌+◌, ◌-◌, ◌<◌, ◌≤◌, ℕ, pos, length, get_or}
use Rattle.nomos_simplex.proofs.table_lines.next_places.Given as goal

-- the places from the back on
abbrev pub invariant-loop-done : goal.invariant-loop-done
invariant-loop-done l = record {
  long : length l.next.items ≡ l.count + 1;
  ahead : (i : ℕ) → l.count - l.done ≤ i → i ≤ l.count → i ≤ get_or l.next.items i 0;
  within : (i : ℕ) → l.count - l.done ≤ i → i ≤ l.count → get_or l.next.items i 0 ≤ l.count;
  zeros : (i k : ℕ) → l.count - l.done ≤ i → i ≤ l.count → i ≤ k → k < get_or l.next.items i 0
      → get_or l.numbers k (pos 0) ≡ pos 0;
}
