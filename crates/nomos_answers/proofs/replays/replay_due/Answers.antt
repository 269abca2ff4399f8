use Rattle.nomos_answers.specs.Outside.{input_of, source_state}
use Rattle.nomos_answers.proofs.DueLemmas.{no_script-fault, replay-answered, replay-no_script, same-items}
use Rattle.nomos_answers.proofs.SourceLemmas.{if_ok-map}
use Rattle.nomos_answers.proofs.replays.replay_due.Goals as goal

pub returns-in-Ok-clause-ok : goal.returns-in-Ok-clause-ok
returns-in-Ok-clause-ok g c =
    let script = source_state (g.S.Source.left c.args.script.now) (g.S.Source.faults c.args.script.now)
    (g.S.Source.faults c.read_script.new.script) in
    let journal = source_state (g.S.Source.left c.args.journal.now) (g.S.Source.faults c.args.journal.now)
    (g.S.Source.faults c.journal_due.new.journal) in
    let f = c.in-Ok.ensures in
    if_ok-map c.journal_due.result _ _
    (λ due is. replay-answered c.args.accepted.now script journal f.0 c.in-Ok.script due f.1 f.2 is)
    c.journal_due.ensures.ok

pub returns-in-Ok-clause-legal : goal.returns-in-Ok-clause-legal
returns-in-Ok-clause-legal g c = λ script_text text items v kept has reads left is.
    let f = c.in-Ok.ensures in
    let same = same-items _ script_text f.0 items c.in-Ok.script f.1 has reads f.2 in
    c.journal_due.ensures.legal v kept text left (rw same at is)

pub returns-in-Err-clause-ok : goal.returns-in-Err-clause-ok
returns-in-Err-clause-ok g c =
    let script = source_state (g.S.Source.left c.args.script.now) (g.S.Source.faults c.args.script.now)
    (g.S.Source.faults c.read_script.new.script) in
    let journal = source_state (g.S.Source.left c.args.journal.now) (g.S.Source.faults c.args.journal.now)
    (g.S.Source.faults c.args.journal.now) in
    let f = c.in-Err.ensures in
    if_ok-map c.no_script_due.result _ _
    (λ due bare. replay-no_script c.args.accepted.now script journal f.0 due f.1 bare)
    (c.no_script_due.ensures.ok (input_of script f.0) f.2)

pub returns-in-Err-clause-legal : goal.returns-in-Err-clause-legal
returns-in-Err-clause-legal g c = λ script_text text items v kept has reads left is.
    let script = source_state (g.S.Source.left c.args.script.now) (g.S.Source.faults c.args.script.now)
    (g.S.Source.faults c.read_script.new.script) in
    let f = c.in-Err.ensures in
    if_ok-map c.no_script_due.result _ _
    (λ due bare. no_script-fault script script_text f.0 items kept due f.1 has reads bare)
    (c.no_script_due.ensures.ok (input_of script f.0) f.2)
