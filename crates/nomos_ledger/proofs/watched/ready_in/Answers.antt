use Rattle.nomos_legal.proofs.WorldLaws.{world-typed}
use Rattle.nomos_ledger.proofs.ReadyLaws.{lowest-ready, next-of_all}
use Rattle.nomos_ledger.proofs.watched.ready_in.Goals as goal

pub returns-in-None : goal.returns-in-None
returns-in-None g c =
    let accepted = c.know.ensures.accepted in
    lowest-ready c.args.accepted.now c.args.world.now.state c.next_ready-in-None.result
    (next-of_all accepted (world-typed accepted c.requires) c.next_ready-in-None.result c.next_ready-in-None.ensures)
