use Rattle.std.proofs.Common.{length}
use Rattle.nomos_ledger.specs.Running.{RunsOn}
use Rattle.nomos_ledger.specs.Watching.{IsWatched}
use Rattle.nomos_replay.specs.mirror.JournalReading.{IsCounted}
use Rattle.nomos_replay.specs.mirror.BatchUnderWay.{CarriesFirings}
use Rattle.nomos_replay.proofs.told_batch.replay_firings.Given as goal

-- the lines so far were those of the firings that were made, and the processes that may be ready cover the state
abbrev pub invariant-lines : goal.invariant-lines
invariant-lines g l = record {
  counted : IsCounted l.source;
  watched : IsWatched l.trial.accepted.now l.watched.world.state l.watched.awake;
  ran : RunsOn l.trial.accepted.now l.most l.fn.watched.world l.watched.world;
  carries :
      CarriesFirings l.trial.accepted.now l.trial.version l.most l.fn.source l.fn.watched.world l.source
      l.watched.world;
}

abbrev pub decreases-lines : goal.decreases-lines
decreases-lines g l = length l.source.lines
