use Rattle.std.proofs.Common.{arith}
use Rattle.nomos_ledger.proofs.StartLaws.{begun-world, first-new}
use Rattle.nomos_ledger.proofs.watched.first_name.Goals as goal

pub returns-in-Some : goal.returns-in-Some
returns-in-Some g c =
    let w = c.args.world.now in
    let begun = begun-world c.know.ensures.accepted c.requires.stands c.requires.fresh in
    first-new w.origin (record w.origin { contracts = w.contracts; state = w.state }) c.in-Some.name begun
    c.in-Some.ensures

pub returns-in-None : goal.returns-in-None
returns-in-None g c =
    let begun = begun-world c.know.ensures.accepted c.requires.stands c.requires.fresh in
    let next = rw c.state.ensures.state at c.next_name.ensures in
    omega (arith, next, begun.grown.names)
