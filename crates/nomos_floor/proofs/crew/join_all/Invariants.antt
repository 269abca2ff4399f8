use Rattle.std.proofs.Common.{◌≡◌, ◌++◌, length}
use Rattle.std.specs.Vec.Iter.{into_iter_items, into_iter_len}
use Rattle.nomos_floor.specs.FloorPass.{IsPassOf}
use Rattle.nomos_floor.specs.FloorCrew.{HasTakenIn, passes_at}
use Rattle.nomos_floor.proofs.crew.join_all.Given as goal

abbrev pub invariant-loop-station : goal.invariant-loop-station
invariant-loop-station g l = record {
  of_floor : IsPassOf l.floor l.opening;
  rest : l.yielded ++ into_iter_items l.station-iterator ≡ l.fn.stations.items;
  long : into_iter_len l.station-iterator ≡ length (into_iter_items l.station-iterator);
  taken_in : HasTakenIn (passes_at l.yielded) l.fn.opening l.opening;
}
