-- All items have passed, and the ledger is saved or not.
use Rattle.nomos_answers.proofs.SourceLemmas.{if_ok-map}
use Rattle.nomos_carrying.proofs.CarryLemmas.{runs-on}
use Rattle.nomos_carrying.proofs.carrying.ran_due.Goals as goal

pub returns-in-Some : goal.returns-in-Some
returns-in-Some g c =
    let runs = rw c.usual_orders.ensures at c.run_from-journal.ensures.runs in
    if_ok-map c.saved_due.result _ _ (λ due saves. runs-on c.in-Some.whole runs c.in-Some.is due saves)
    c.saved_due.ensures.ok
