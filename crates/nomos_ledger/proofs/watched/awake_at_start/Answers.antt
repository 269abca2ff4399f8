use Rattle.nomos_ledger.proofs.StartLaws.{start-covers}
use Rattle.nomos_ledger.proofs.watched.awake_at_start.Goals as goal

pub returns : goal.returns
returns g c =
    start-covers c.know.ensures.accepted c.requires.stands c.requires.fresh c.first_number-first.result
    c.first_name-name.result c.awake_from.result c.first_number-first.ensures.low c.first_name-name.ensures
    (rw c.state.ensures.state at c.awake_from.ensures.woken) c.awake_from.ensures.followed c.awake_from.ensures.noted
