use Rattle.nomos_run_tests.proofs.WorldLemmas.{begun-runs}
use Rattle.nomos_run_tests.proofs.worlds.world_of.Goals as goal

pub returns : goal.returns
returns g c =
    begun-runs c.know.ensures.accepted c.in-World.ensures.begins c.in-World.ensures.stands
    c.ledger_behind-ledger.ensures.numbered c.first_batch.ensures
