use Rattle.std.proofs.Common.{length}
use Rattle.nomos_tale.proofs.FiringLemmas.{gives-allowed}
use Rattle.nomos_tale.proofs.batch_tale.end_at_limit.Goals as goal

pub returns-in-None-clause-ends : goal.returns-in-None-clause-ends
returns-in-None-clause-ends g c =
    let w = c.args.watched.now.world in
    gives-allowed c.args.accepted.now w.state (length w.firings) c.args.limit c.end_at_rest.result
    (rw c.lowest.ensures.world at (c.end_at_rest.ensures (length w.firings) c.args.limit))
