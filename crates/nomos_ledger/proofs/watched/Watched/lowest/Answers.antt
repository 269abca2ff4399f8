use Rattle.nomos_legal.proofs.WorldLaws.{world-typed}
use Rattle.nomos_ledger.proofs.ReadyLaws.{next-of_all}
use Rattle.nomos_ledger.proofs.watched.Watched.lowest.Goals as goal

pub returns-clause-lowest : goal.returns-clause-lowest
returns-clause-lowest g c =
    let accepted = c.know.ensures.accepted in
    next-of_all accepted (world-typed accepted c.requires.stands) c.next_ready.result c.next_ready.ensures.next
