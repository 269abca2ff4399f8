use Rattle.std.proofs.Common.{◌≡◌}
use Rattle.nomos_ledger.specs.Watching.{IsWatched}
use Rattle.nomos_tale.proofs.next_firing.ready_at.Given as goal

-- the world is as it was
abbrev pub invariant-processes : goal.invariant-processes
invariant-processes g l = record {
  world : l.watched.world ≡ l.fn.watched.world;
  watched : IsWatched l.accepted l.watched.world.state l.watched.awake;
}
