use Rattle.std.proofs.Common.{◌≡◌}
use Rattle.nomos_workers.specs.mirror.WorkerSteps.{HasMade}
use Rattle.nomos_ledger.specs.Watching.{IsWatched}
use Rattle.nomos_workers.proofs.one.fire_all.Given as goal

-- the firings so far are those of the policy, and the processes that may be ready cover the state
abbrev pub invariant-firings : goal.invariant-firings
invariant-firings g l = record {
  policy : l.chooser.policy ≡ l.fn.policy;
  made : HasMade l.fn.policy l.accepted l._made l.chooser.last l.fn.watched.world l.watched.world;
  watched : IsWatched l.accepted l.watched.world.state l.watched.awake;
}
