use Rattle.std.proofs.Common.{length}
use Rattle.nomos_ledger.proofs.world.World.end.Goals as goal

pub returns : goal.returns
returns g c = c.end_at_rest.ensures (length c.args.self.now.firings) c.args.limit
