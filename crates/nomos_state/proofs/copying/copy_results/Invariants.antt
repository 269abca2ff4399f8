use Rattle.std.proofs.Common.{◌≡◌, ◌≤◌, ◌+◌, None, length, take}
use Rattle.nomos_state.proofs.copying.copy_results.Given as goal

-- the copies so far are of the first pairs, and there is room for the others
abbrev pub invariant-loop-pair : goal.invariant-loop-pair
invariant-loop-pair l = record {
  now : l.made.now ≡ take l.pair-index l.results;
  marked : l.made.marked ≡ None;
  room : length l.results ≤ l.made.room + l.pair-index;
}
