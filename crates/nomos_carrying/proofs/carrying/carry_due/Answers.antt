use Rattle.nomos_answers.specs.Outside.{source_state}
use Rattle.nomos_answers.proofs.SourceLemmas.{told-same}
use Rattle.nomos_carrying.proofs.CarryLemmas.{carries-on, stops-before}
use Rattle.nomos_carrying.proofs.NoLedgerLemmas.{if_ok-some}
use Rattle.nomos_carrying.proofs.carrying.carry_due.Goals as goal

pub returns-in-Ok-clause-due : goal.returns-in-Ok-clause-due
returns-in-Ok-clause-due g c =
    let snapshot = source_state (g.S.Source.left c.args.snapshot.now) (g.S.Source.faults c.args.snapshot.now)
    (g.S.Source.faults c.read_ledger.new.snapshot) in
    let script = source_state (g.S.Source.left c.args.script.now) (g.S.Source.faults c.args.script.now)
    (g.S.Source.faults c.carried_due.new.script) in
    let f = c.in-Ok.ensures.finds in
    rw c.ok.ensures.value
    (if_ok-some c.carried_due.result _ _
    (λ due goes. carries-on {snapshot = snapshot} {script = script} f.0 due f.1 f.2 goes) c.carried_due.ensures)

pub returns-in-Ok-clause-unread : goal.returns-in-Ok-clause-unread
returns-in-Ok-clause-unread g c = λ text left never.
    let f = c.in-Ok.ensures.finds in
    let same = told-same _ text f.0 f.1 left in
    absurd (never c.in-Ok.first (rw same at f.2))

pub returns-in-Err-clause-due : goal.returns-in-Err-clause-due
returns-in-Err-clause-due g c =
    let snapshot = source_state (g.S.Source.left c.args.snapshot.now) (g.S.Source.faults c.args.snapshot.now)
    (g.S.Source.faults c.read_ledger.new.snapshot) in
    let script = source_state (g.S.Source.left c.args.script.now) (g.S.Source.faults c.args.script.now)
    (g.S.Source.faults c.args.script.now) in
    let f = c.in-Err.ensures.finds in
    rw c.ok-in-Err.ensures.value
    (if_ok-some c.no_ledger_due.result _ _
    (λ due none. stops-before {snapshot = snapshot} {script = script} f.0 c.in-Err.why due f.1 f.2 none)
    c.no_ledger_due.ensures.ok)
