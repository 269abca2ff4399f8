-- There is a renumbered ledger or none.
use Rattle.nomos_answers.specs.Outside.{Input}
use Rattle.nomos_carrying.proofs.NoLedgerLemmas.{if_ok-some, if_some-map}
use Rattle.nomos_carrying.proofs.RenumberLemmas.{not_renumbered-due, renumbered-due}
use Rattle.nomos_carrying.proofs.renumbering.text_due.Goals as goal

pub returns-in-Ok : goal.returns-in-Ok
returns-in-Ok g c = λ counts.
    let snapshot : Input = record { text = c.args.text.now; counts = counts } in
    if_some-map c.renumbered_due.result _ _
    (λ due keeps. renumbered-due snapshot c.in-Ok.ledger due c.in-Ok.ensures.ok keeps) c.renumbered_due.ensures

pub returns-in-Err : goal.returns-in-Err
returns-in-Err g c = λ counts.
    let snapshot : Input = record { text = c.args.text.now; counts = counts } in
    rw c.ok.ensures.value
    (if_ok-some c.no_ledger_due.result _ _
    (λ due none. not_renumbered-due snapshot c.in-Err.why due c.in-Err.ensures.err none) c.no_ledger_due.ensures.ok)
