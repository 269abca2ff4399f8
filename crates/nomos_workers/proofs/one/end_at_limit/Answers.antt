use Rattle.std.proofs.Common.{length}
use Rattle.nomos_workers.proofs.one.end_at_limit.Goals as goal

pub returns-in-None-clause-ends : goal.returns-in-None-clause-ends
returns-in-None-clause-ends g c =
    rw c.lowest.ensures.world at
    (c.end_at_rest.ensures (length c.args.watched.now.world.firings) c.args.limit)
