use Rattle.nomos_answers.proofs.SourceLemmas.{if_ok-map}
use Rattle.nomos_answers.proofs.WholeLemmas.{part-behind, whole-run, whole-saves}
use Rattle.nomos_answers.proofs.saves.script_save_due.Goals as goal

pub returns-in-Some-clause-ok : goal.returns-in-Some-clause-ok
returns-in-Some-clause-ok g c =
    let runs = rw c.usual_orders.ensures at c.run_script-journal.ensures.runs in
    if_ok-map c.saved_due.result _ _
    (λ due saves. whole-saves (whole-run c.in-Some.whole runs c.in-Some.is) due saves) c.saved_due.ensures.ok

pub returns-in-Some-clause-err : goal.returns-in-Some-clause-err
returns-in-Some-clause-err g c =
    part-behind (rw c.usual_orders.ensures at c.run_script-journal.ensures.runs) c.saved_due.result
    c.saved_due.ensures.err
