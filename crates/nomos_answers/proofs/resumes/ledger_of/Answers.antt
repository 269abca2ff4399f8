use Rattle.nomos_answers.proofs.SnapshotDueLemmas.{may-go-on}
use Rattle.nomos_answers.proofs.resumes.ledger_of.Goals as goal

pub returns-in-Ok-clause-may : goal.returns-in-Ok-clause-may
returns-in-Ok-clause-may g c = may-go-on c.in-Ok.ensures.stands c.in-Ok.ensures.numbers
