use Rattle.nomos_ledger.proofs.TransactionLemmas.{world-over}
use Rattle.nomos_ledger.proofs.world.World.before_transactions.Goals as goal

pub returns : goal.returns
returns g c =
    rw c.saturating_sub.ensures
    (world-over c.know.ensures.accepted c.requires c.first_number.result c.first_number.ensures.low)
