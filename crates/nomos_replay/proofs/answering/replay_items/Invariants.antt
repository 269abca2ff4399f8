use Rattle.std.proofs.Common.{drop, take}
use Rattle.nomos_replay.specs.mirror.Items.{ToldUpTo}
use Rattle.nomos_replay.specs.mirror.JournalReading.{IsCounted}
use Rattle.nomos_replay.proofs.answering.replay_items.Given as goal

-- the items so far were told
abbrev pub invariant-items : goal.invariant-items
invariant-items g l = record {
  counted : IsCounted l.reading.source;
  told :
      ToldUpTo l.trial.accepted.now l.trial.version l.fn.from l.fn.walk.limit l.trial.wanted l.fn.reading.source l.items
      (take l.item-index l.items) (drop l.item-index l.items) l.reading l.ledger l.walk;
}
