use Rattle.nomos_answers.proofs.WholeLemmas.{part-from, whole-from, whole-run}
use Rattle.nomos_answers.proofs.resumes.ran_from_due.Goals as goal

pub returns-in-Some-clause-ok : goal.returns-in-Some-clause-ok
returns-in-Some-clause-ok g c =
    let runs = rw c.usual_orders.ensures at c.run_from-journal.ensures.runs in
    let made = c.whole_due.ensures in
    whole-from (whole-run c.in-Some.whole runs c.in-Some.is) c.whole_due.result made.status made.out made.kept
    made.journal

pub returns-in-None-clause-err : goal.returns-in-None-clause-err
returns-in-None-clause-err g c = part-from (rw c.usual_orders.ensures at c.run_from-journal.ensures.runs)
