-- One more is higher than those before it.
use Rattle.nomos_eval.proofs.AscendingLemmas.{rises-more}
use Rattle.nomos_eval.proofs.ascending.rising.Goals as goal

pub loop-now-preserved : goal.loop-now-preserved
loop-now-preserved g c =
    rises-more c.args.pairs.now c.loop-now.now c.loop-now.invariant (c.is_higher.ensures c.if-is_higher.true)
