use Rattle.nomos_answers.specs.Outside.{source_state}
use Rattle.nomos_carrying.proofs.NoLedgerLemmas.{if_ok-some, if_some-map, numbers-none, numbers-told}
use Rattle.nomos_carrying.proofs.numbering.numbers_due.Goals as goal

pub returns-in-Ok : goal.returns-in-Ok
returns-in-Ok g c =
    let snapshot = source_state (g.S.Source.left c.args.snapshot.now) (g.S.Source.faults c.args.snapshot.now)
    (g.S.Source.faults c.read_ledger.new.snapshot) in
    let f = c.in-Ok.ensures.finds in
    if_some-map c.told_numbers.result _ _
    (λ due tells. numbers-told snapshot f.0 c.in-Ok.ledger due f.1 f.2 tells) c.told_numbers.ensures

pub returns-in-Err : goal.returns-in-Err
returns-in-Err g c =
    let snapshot = source_state (g.S.Source.left c.args.snapshot.now) (g.S.Source.faults c.args.snapshot.now)
    (g.S.Source.faults c.read_ledger.new.snapshot) in
    let f = c.in-Err.ensures.finds in
    rw c.ok.ensures.value
    (if_ok-some c.no_ledger_due.result _ _
    (λ due none. numbers-none snapshot f.0 c.in-Err.why due f.1 f.2 none) c.no_ledger_due.ensures.ok)
