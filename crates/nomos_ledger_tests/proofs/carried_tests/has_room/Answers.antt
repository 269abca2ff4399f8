use Rattle.nomos_ledger_tests.proofs.PartLemmas.{none-past}
use Rattle.nomos_ledger_tests.proofs.carried_tests.has_room.Goals as goal
use Rattle.std.proofs.Common.{arith}

pub returns-in-None-clause-accounts : goal.returns-in-None-clause-accounts
returns-in-None-clause-accounts c = λ yes.
    omega (arith, none-past c.args.ledger.now.accounts 2147483647 c.in-None.ensures.account)
