use Rattle.nomos_run_tests.proofs.WorldLemmas.{ledger-numbered}
use Rattle.nomos_run_tests.proofs.worlds.ledger_behind.Goals as goal

pub returns-clause-numbered : goal.returns-clause-numbered
returns-clause-numbered g c =
    rw c.in-Some.is at
    (ledger-numbered c.know.ensures.accepted c.items-items.ensures.size _ c.ran-journal.result
    c.ran-journal.ensures)
