use Rattle.std.proofs.Common.{arith}
use Rattle.nomos_ledger.proofs.TransactionLemmas.{world-few}
use Rattle.nomos_ledger.proofs.world.World.first_number.Goals as goal

pub returns-clause-low : goal.returns-clause-low
returns-clause-low g c =
    let few = world-few c.know.ensures.accepted c.requires in
    let next = rw c.state.ensures.state at c.next_object.ensures in
    let without = rw c.firings.ensures at c.lowered-without_firings.ensures in
    omega (arith, few, next, without)
