use Rattle.nomos_answers.specs.Outside.{input_of, source_state}
use Rattle.nomos_answers.proofs.DueLemmas.{due-no_script, due-run, part-none, part-run}
use Rattle.nomos_answers.proofs.SourceLemmas.{if_err-map, if_ok-map}
use Rattle.nomos_answers.proofs.runs.run_due.Goals as goal

pub returns-in-Ok-clause-ok : goal.returns-in-Ok-clause-ok
returns-in-Ok-clause-ok g c =
    let script = source_state (g.S.Source.left c.args.script.now) (g.S.Source.faults c.args.script.now)
    (g.S.Source.faults c.read_script.new.script) in
    let f = c.in-Ok.ensures in
    if_ok-map c.ran_due.result _ _
    (λ due run. due-run c.args.accepted.now c.args.orders script f.0 c.in-Ok.script due f.1 f.2 run)
    c.ran_due.ensures.ok

pub returns-in-Ok-clause-err : goal.returns-in-Ok-clause-err
returns-in-Ok-clause-err g c =
    let script = source_state (g.S.Source.left c.args.script.now) (g.S.Source.faults c.args.script.now)
    (g.S.Source.faults c.read_script.new.script) in
    let f = c.in-Ok.ensures in
    if_err-map c.ran_due.result _ _
    (λ journal part. part-run c.args.accepted.now c.args.orders script f.0 c.in-Ok.script journal f.1 f.2 part)
    c.ran_due.ensures.err

pub returns-in-Err-clause-ok : goal.returns-in-Err-clause-ok
returns-in-Err-clause-ok g c =
    let script = source_state (g.S.Source.left c.args.script.now) (g.S.Source.faults c.args.script.now)
    (g.S.Source.faults c.read_script.new.script) in
    let f = c.in-Err.ensures in
    if_ok-map c.no_script_due.result _ _
    (λ due bare. due-no_script c.args.accepted.now c.args.orders script f.0 due f.1 bare)
    (c.no_script_due.ensures.ok (input_of script f.0) f.2)

pub returns-in-Err-clause-err : goal.returns-in-Err-clause-err
returns-in-Err-clause-err g c =
    let script = source_state (g.S.Source.left c.args.script.now) (g.S.Source.faults c.args.script.now)
    (g.S.Source.faults c.read_script.new.script) in
    if_err-map c.no_script_due.result _ _
    (λ journal none. part-none c.args.accepted.now c.args.orders script journal none)
    c.no_script_due.ensures.err
