use Rattle.nomos_ledger.proofs.ReadyLaws.{lowest-ready}
use Rattle.nomos_ledger.proofs.watched.Watched.end.Goals as goal

pub end_where-requires-clause-ready : goal.end_where-requires-clause-ready
end_where-requires-clause-ready g c =
    rw c.lowest-lowest.ensures.world
    (lowest-ready c.args.accepted.now c.args.self.now.world.state c.lowest-lowest.result c.lowest-lowest.ensures.lowest)

pub returns-clause-end : goal.returns-clause-end
returns-clause-end g c = rw c.lowest-lowest.ensures.world at c.end_where.ensures
