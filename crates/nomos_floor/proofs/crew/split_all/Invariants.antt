use Rattle.std.proofs.Common.{◌≡◌, ◌≤◌, vec_len, vec_capacity}
use Rattle.std.specs.List.{range_with_len}
use Rattle.std.specs.Prelude.{All}
use Rattle.nomos_floor.specs.FloorPass.{IsPassOf, seen_by, next_of}
use Rattle.nomos_floor.specs.FloorCrew.{HasSplitOff, IsManned, IsNewStation, numbers_at}
use Rattle.nomos_floor.proofs.crew.split_all.Given as goal

abbrev pub invariant-loop : goal.invariant-loop
invariant-loop g l = record {
  of_floor : IsPassOf l.floor l.opening;
  split : HasSplitOff l.counter l.fn.opening l.opening;
  long : vec_len l.stations ≡ l.counter;
  room : l.count ≤ vec_capacity l.stations;
  manned : All (IsManned l.floor) l.stations.items;
  new : All (IsNewStation (seen_by l.fn.opening)) l.stations.items;
  numbers : numbers_at l.stations.items ≡ range_with_len (next_of l.fn.opening) l.counter;
}
