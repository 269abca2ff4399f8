-- The ledger is saved or not.
use Rattle.nomos_carrying.proofs.NoLedgerLemmas.{if_some-map}
use Rattle.nomos_carrying.proofs.RenumberLemmas.{keeps-saved, keeps-unsaved}
use Rattle.nomos_carrying.proofs.renumbering.renumbered_due.Goals as goal

pub returns-in-Ok : goal.returns-in-Ok
returns-in-Ok g c =
    if_some-map c.kept_due.result _ _
    (λ due tells. keeps-saved c.args.ledger.now c.in-Ok.text.items due c.in-Ok.ensures.ok c.in-Ok.ensures.loads tells)
    c.kept_due.ensures

pub returns-in-Err : goal.returns-in-Err
returns-in-Err g c =
    keeps-unsaved c.args.ledger.now c.in-Err.why c.unsaved_due.result c.in-Err.ensures.err c.unsaved_due.ensures.line
    c.unsaved_due.ensures.known
