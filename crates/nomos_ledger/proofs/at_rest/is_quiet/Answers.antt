use Rattle.nomos_ledger.proofs.RestLemmas.{quiet-no_next}
use Rattle.nomos_ledger.proofs.at_rest.is_quiet.Goals as goal

pub returns : goal.returns
returns g c =
    quiet-no_next c.know.ensures.accepted c.requires c.next_ready.result c.is_none.result c.is_none.ensures
    c.next_ready.ensures
