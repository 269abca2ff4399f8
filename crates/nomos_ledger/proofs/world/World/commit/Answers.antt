use Rattle.nomos_legal.proofs.WorldLaws.{committed-stands}
use Rattle.nomos_ledger.proofs.world.World.commit.Goals as goal

pub returns-clause-stands : goal.returns-clause-stands
returns-clause-stands g c a limit accepted stands ends =
    let made = rw (← c.self.view_is) at (committed-stands accepted stands limit limit ends) in
    rw c.settle.ensures made
