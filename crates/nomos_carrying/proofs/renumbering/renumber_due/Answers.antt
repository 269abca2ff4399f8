use Rattle.nomos_answers.specs.Outside.{FaultCounts, source_state}
use Rattle.nomos_carrying.proofs.NoLedgerLemmas.{if_ok-some, if_some-map, renumber-none}
use Rattle.nomos_carrying.proofs.renumbering.renumber_due.Goals as goal

pub returns-in-Ok : goal.returns-in-Ok
returns-in-Ok g c =
    let counts : FaultCounts = record {
      before = g.S.Source.faults c.args.snapshot.now;
      after = g.S.Source.faults c.read_snapshot.new.snapshot;
    } in
    let f = c.in-Ok.ensures c.args.accepted.now in
    if_some-map c.text_due.result _ _ (λ due is. record { text = f.0; told = f.1; is = is })
    (rw (c.deref.ensures.value, f.2) at (c.text_due.ensures counts))

pub returns-in-Err : goal.returns-in-Err
returns-in-Err g c =
    let snapshot = source_state (g.S.Source.left c.args.snapshot.now) (g.S.Source.faults c.args.snapshot.now)
    (g.S.Source.faults c.read_snapshot.new.snapshot) in
    let f = c.in-Err.ensures c.args.accepted.now in
    rw c.ok.ensures.value
    (if_ok-some c.no_ledger_due.result _ _
    (λ due none. renumber-none snapshot f.0 c.in-Err.why due f.1 f.2 none) c.no_ledger_due.ensures.ok)
