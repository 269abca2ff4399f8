use Rattle.nomos_run_tests.proofs.LegalLemmas.{whole-legal}
use Rattle.nomos_run_tests.proofs.retelling_tests.journal_of.Goals as goal

pub returns : goal.returns
returns g c = rw c.in-Some.is at (whole-legal _ c.ran-journal.result c.ran-journal.ensures)
