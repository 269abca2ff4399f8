use Rattle.nomos_run.proofs.CarriedLaws.{given-report, given-text}
use Rattle.nomos_run.proofs.CarryLemmas.{empty-accounts, empty-numbers, run-empty}
use Rattle.nomos_run.proofs.one_worker.run_script.Goals as goal

pub run_from-requires-clause-stands : goal.run_from-requires-clause-stands
run_from-requires-clause-stands g c = c.empty.ensures.stands c.args.accepted.now

pub run_from-requires-clause-numbers : goal.run_from-requires-clause-numbers
run_from-requires-clause-numbers g c = empty-numbers c.empty.result c.empty.ensures.empty

pub run_from-requires-clause-accounts : goal.run_from-requires-clause-accounts
run_from-requires-clause-accounts g c = empty-accounts c.empty.result c.empty.ensures.empty

pub returns-clause-runs : goal.returns-clause-runs
returns-clause-runs g c = run-empty c.run_from.result c.empty.ensures.empty c.run_from.ensures.runs

pub returns-clause-report : goal.returns-clause-report
returns-clause-report g c = given-report c.run_from.result (returns-clause-runs g c)

pub returns-clause-text : goal.returns-clause-text
returns-clause-text g c = given-text c.run_from.result (returns-clause-runs g c)
