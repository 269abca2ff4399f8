use Rattle.std.proofs.Common.{sym}
use Rattle.nomos_ledger.proofs.RestLemmas.{left-next}
use Rattle.nomos_ledger.proofs.at_rest.has_transaction.Goals as goal

pub returns : goal.returns
returns g c =
    left-next c.requires.numbered c.args.after c.requires.over c.next_transaction.result c.is_some.result
    (sym c.is_some.ensures) c.next_transaction.ensures
