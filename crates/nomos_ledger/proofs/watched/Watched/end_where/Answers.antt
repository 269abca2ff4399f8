use Rattle.std.proofs.Common.{length}
use Rattle.nomos_ledger.proofs.watched.Watched.end_where.Goals as goal

pub returns-in-None : goal.returns-in-None
returns-in-None g c = c.end_at_rest.ensures (length c.args.self.now.world.firings) c.args.limit
