use Rattle.std.proofs.Common.{refl}
use Rattle.nomos_answers.specs.Finding.{saved}
use Rattle.nomos_answers.proofs.SnapshotDueLemmas.{save-refused}
use Rattle.nomos_answers.proofs.saves.saved_due.Goals as goal

pub returns-in-Ok-clause-ok : goal.returns-in-Ok-clause-ok
returns-in-Ok-clause-ok g c =
    saved c.in-Ok.text.items c.in-Ok.ensures.ok c.in-Ok.ensures.loads
    (rw c.as_slice.ensures at c.run_status.ensures) refl refl refl

pub returns-clause-ok : goal.returns-clause-ok
returns-clause-ok g c =
    let made = c.unsaved_due.ensures in
    save-refused c.args.accepted.now c.args.journal c.args.whole.report.items c.args.whole.ledger c.in-Err.why
    c.unsaved_due.result c.in-Err.ensures.err made.ok made.known
