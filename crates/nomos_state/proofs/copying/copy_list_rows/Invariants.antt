use Rattle.std.proofs.Common.{◌≡◌, ◌≤◌, ◌+◌, None, length, take}
use Rattle.nomos_state.proofs.copying.copy_list_rows.Given as goal

-- the copies so far are of the first rows, and there is room for the others
abbrev pub invariant-loop-place : goal.invariant-loop-place
invariant-loop-place l = record {
  now : l.made.now ≡ take l.place l.rows.now;
  marked : l.made.marked ≡ None;
  room : length l.rows.now ≤ l.made.room + l.place;
}
