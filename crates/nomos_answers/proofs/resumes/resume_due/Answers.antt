use Rattle.nomos_answers.specs.Outside.{source_state}
use Rattle.nomos_answers.proofs.SnapshotDueLemmas.{due-resume, part-no_ledger, part-resume, resume-no_ledger}
use Rattle.nomos_answers.proofs.SourceLemmas.{if_err-map, if_ok-map, told-same}
use Rattle.nomos_answers.proofs.resumes.resume_due.Goals as goal

pub returns-in-Ok-clause-ok : goal.returns-in-Ok-clause-ok
returns-in-Ok-clause-ok g c =
    let snapshot = source_state (g.S.Source.left c.args.snapshot.now) (g.S.Source.faults c.args.snapshot.now)
    (g.S.Source.faults c.read_ledger.new.snapshot) in
    let script = source_state (g.S.Source.left c.args.script.now) (g.S.Source.faults c.args.script.now)
    (g.S.Source.faults c.resumed_due.new.script) in
    let f = c.in-Ok.ensures.finds in
    if_ok-map c.resumed_due.result _ _
    (λ due is. due-resume c.args.accepted.now snapshot script f.0 c.in-Ok.ledger due f.1 f.2 is)
    c.resumed_due.ensures.ok

pub returns-in-Ok-clause-err : goal.returns-in-Ok-clause-err
returns-in-Ok-clause-err g c =
    let snapshot = source_state (g.S.Source.left c.args.snapshot.now) (g.S.Source.faults c.args.snapshot.now)
    (g.S.Source.faults c.read_ledger.new.snapshot) in
    let script = source_state (g.S.Source.left c.args.script.now) (g.S.Source.faults c.args.script.now)
    (g.S.Source.faults c.resumed_due.new.script) in
    let f = c.in-Ok.ensures.finds in
    if_err-map c.resumed_due.result _ _
    (λ journal part. part-resume c.args.accepted.now snapshot script f.0 c.in-Ok.ledger journal f.1 f.2 part)
    c.resumed_due.ensures.err

pub returns-in-Ok-clause-unread : goal.returns-in-Ok-clause-unread
returns-in-Ok-clause-unread g c = λ text left never.
    let f = c.in-Ok.ensures.finds in
    let same = told-same _ text f.0 f.1 left in
    absurd (never c.in-Ok.ledger (rw same at f.2))

pub returns-in-Err-clause-ok : goal.returns-in-Err-clause-ok
returns-in-Err-clause-ok g c =
    let snapshot = source_state (g.S.Source.left c.args.snapshot.now) (g.S.Source.faults c.args.snapshot.now)
    (g.S.Source.faults c.read_ledger.new.snapshot) in
    let script = source_state (g.S.Source.left c.args.script.now) (g.S.Source.faults c.args.script.now)
    (g.S.Source.faults c.args.script.now) in
    let f = c.in-Err.ensures.finds in
    if_ok-map c.no_ledger_due.result _ _
    (λ due none. resume-no_ledger c.args.accepted.now snapshot script f.0 c.in-Err.why due f.1 f.2 none)
    c.no_ledger_due.ensures.ok

pub returns-in-Err-clause-err : goal.returns-in-Err-clause-err
returns-in-Err-clause-err g c =
    let snapshot = source_state (g.S.Source.left c.args.snapshot.now) (g.S.Source.faults c.args.snapshot.now)
    (g.S.Source.faults c.read_ledger.new.snapshot) in
    let script = source_state (g.S.Source.left c.args.script.now) (g.S.Source.faults c.args.script.now)
    (g.S.Source.faults c.args.script.now) in
    if_err-map c.no_ledger_due.result _ _
    (λ journal none. part-no_ledger c.args.accepted.now snapshot script journal none)
    c.no_ledger_due.ensures.err
