-- The script reads or not.
use Rattle.nomos_answers.specs.Outside.{input_of, source_state}
use Rattle.nomos_answers.proofs.SourceLemmas.{if_ok-map}
use Rattle.nomos_carrying.specs.mirror.Carrying.{not_read, ran_on}
use Rattle.nomos_carrying.proofs.carrying.carried_due.Goals as goal

pub returns-in-Ok : goal.returns-in-Ok
returns-in-Ok g c =
    let f = c.in-Ok.ensures in
    if_ok-map c.ran_due.result _ _ (λ due runs. ran_on f.0 c.in-Ok.script f.1 f.2 runs) c.ran_due.ensures

pub returns-in-Err : goal.returns-in-Err
returns-in-Err g c =
    let script = source_state (g.S.Source.left c.args.script.now) (g.S.Source.faults c.args.script.now)
    (g.S.Source.faults c.read_script.new.script) in
    let f = c.in-Err.ensures in
    if_ok-map c.no_script_due.result _ _ (λ due bare. not_read f.0 f.1 bare)
    (c.no_script_due.ensures.ok (input_of script f.0) f.2)
