use Rattle.std.proofs.Common.{◌≡◌}
use Rattle.nomos_machine.specs.Step.{IsReady}
use Rattle.nomos_ledger.specs.Watching.{IsWatched}
use Rattle.nomos_workers.proofs.look.free_one.Given as goal

-- the batch is as it was, and this process of it is ready
abbrev pub invariant-passed : goal.invariant-passed
invariant-passed g l = record {
  world : l.watched.world ≡ l.fn.watched.world;
  watched : IsWatched l.accepted l.watched.world.state l.watched.awake;
  ready : IsReady l.accepted l.fn.watched.world.state l.pid;
}
