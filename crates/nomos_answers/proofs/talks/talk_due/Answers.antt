use Rattle.nomos_answers.specs.Outside.{input_of, source_state}
use Rattle.nomos_answers.specs.RunsDue.{usual_orders}
use Rattle.nomos_answers.proofs.DueLemmas.{part-none, part-run}
use Rattle.nomos_answers.proofs.TalkDueLemmas.{due-talk, talk-no_script}
use Rattle.nomos_answers.proofs.SourceLemmas.{if_err-map, if_ok-map, told-same}
use Rattle.nomos_answers.proofs.talks.talk_due.Goals as goal

pub returns-in-Ok-clause-ok : goal.returns-in-Ok-clause-ok
returns-in-Ok-clause-ok g c =
    let script = source_state (g.S.Source.left c.args.script.now) (g.S.Source.faults c.args.script.now)
    (g.S.Source.faults c.read_script.new.script) in
    let talk = source_state (g.S.Source.left c.args.text.now) (g.S.Source.faults c.args.text.now)
    (g.S.Source.faults c.script_talk_due.new.text) in
    let f = c.in-Ok.ensures in
    if_ok-map c.script_talk_due.result _ _
    (λ due is.
    due-talk c.args.accepted.now c.args.party.name.now c.args.party.proc.now script talk f.0 c.in-Ok.script due f.1 f.2
    is)
    c.script_talk_due.ensures.ok

pub returns-in-Ok-clause-err : goal.returns-in-Ok-clause-err
returns-in-Ok-clause-err g c =
    let script = source_state (g.S.Source.left c.args.script.now) (g.S.Source.faults c.args.script.now)
    (g.S.Source.faults c.read_script.new.script) in
    let f = c.in-Ok.ensures in
    if_err-map c.script_talk_due.result _ _
    (λ journal part. part-run c.args.accepted.now usual_orders script f.0 c.in-Ok.script journal f.1 f.2 part)
    c.script_talk_due.ensures.err

pub returns-in-Ok-clause-unread : goal.returns-in-Ok-clause-unread
returns-in-Ok-clause-unread g c = λ script_text left never.
    let f = c.in-Ok.ensures in
    let same = told-same _ script_text f.0 f.1 left in
    absurd (never c.in-Ok.script (rw same at f.2))

pub returns-in-Err-clause-ok : goal.returns-in-Err-clause-ok
returns-in-Err-clause-ok g c =
    let script = source_state (g.S.Source.left c.args.script.now) (g.S.Source.faults c.args.script.now)
    (g.S.Source.faults c.read_script.new.script) in
    let talk = source_state (g.S.Source.left c.args.text.now) (g.S.Source.faults c.args.text.now)
    (g.S.Source.faults c.args.text.now) in
    let f = c.in-Err.ensures in
    if_ok-map c.no_script_due.result _ _
    (λ due bare. talk-no_script c.args.accepted.now c.args.party.name.now c.args.party.proc.now script talk f.0 due f.1
    bare)
    (c.no_script_due.ensures.ok (input_of script f.0) f.2)

pub returns-in-Err-clause-err : goal.returns-in-Err-clause-err
returns-in-Err-clause-err g c =
    let script = source_state (g.S.Source.left c.args.script.now) (g.S.Source.faults c.args.script.now)
    (g.S.Source.faults c.read_script.new.script) in
    if_err-map c.no_script_due.result _ _
    (λ journal none. part-none c.args.accepted.now usual_orders script journal none)
    c.no_script_due.ensures.err
