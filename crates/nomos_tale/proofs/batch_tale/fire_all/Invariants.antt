use Rattle.nomos_ledger.specs.Watching.{IsWatched}
use Rattle.nomos_tale.specs.mirror.Choices.{HasFiredOn}
use Rattle.nomos_tale.proofs.batch_tale.fire_all.Given as goal

-- so many processes have fired, and those that may be ready cover the state
abbrev pub invariant-firings : goal.invariant-firings
invariant-firings g l = record {
  on : HasFiredOn l.accepted l._made l.fn.watched.world l.watched.world;
  watched : IsWatched l.accepted l.watched.world.state l.watched.awake;
}
