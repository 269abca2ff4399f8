use Rattle.nomos_answers.specs.Finding.{not_read}
use Rattle.nomos_answers.specs.Outside.{input_of, source_state}
use Rattle.nomos_answers.proofs.SnapshotDueLemmas.{resumes-part, resumes-run}
use Rattle.nomos_answers.proofs.SourceLemmas.{if_ok-map}
use Rattle.nomos_answers.proofs.resumes.resumed_due.Goals as goal

pub returns-in-Ok-clause-ok : goal.returns-in-Ok-clause-ok
returns-in-Ok-clause-ok g c =
    let script = source_state (g.S.Source.left c.args.script.now) (g.S.Source.faults c.args.script.now)
    (g.S.Source.faults c.read_script.new.script) in
    let f = c.in-Ok.ensures in
    resumes-run c.args.accepted.now c.args.from script f.0 c.in-Ok.script c.ran_from_due.result f.1 f.2
    c.ran_from_due.ensures.ok

pub returns-in-Ok-clause-err : goal.returns-in-Ok-clause-err
returns-in-Ok-clause-err g c =
    let script = source_state (g.S.Source.left c.args.script.now) (g.S.Source.faults c.args.script.now)
    (g.S.Source.faults c.read_script.new.script) in
    let f = c.in-Ok.ensures in
    resumes-part c.args.accepted.now c.args.from script f.0 c.in-Ok.script c.ran_from_due.result f.1 f.2
    c.ran_from_due.ensures.err

pub returns-in-Err-clause-ok : goal.returns-in-Err-clause-ok
returns-in-Err-clause-ok g c =
    let script = source_state (g.S.Source.left c.args.script.now) (g.S.Source.faults c.args.script.now)
    (g.S.Source.faults c.read_script.new.script) in
    let f = c.in-Err.ensures in
    if_ok-map c.no_script_due.result _ _ (λ due bare. not_read f.0 f.1 bare)
    (c.no_script_due.ensures.ok (input_of script f.0) f.2)
