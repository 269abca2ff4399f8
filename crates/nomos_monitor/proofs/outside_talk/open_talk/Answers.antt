use Rattle.nomos_monitor.proofs.AnswerLaws.{one-refusal, opened-so, refused-not_opened, refused-so}
use Rattle.nomos_monitor.proofs.outside_talk.open_talk.Goals as goal

pub returns-in-Ok-Err-clause-refused : goal.returns-in-Ok-Err-clause-refused
returns-in-Ok-Err-clause-refused g c other is =
    let why = rw c.in-Ok-Err.field-0-is at c.in-Ok-Err.ensures in
    one-refusal c.know.ensures.accepted c.in-Ok-Err.why other why is

pub returns-in-Ok-Err-clause-opened : goal.returns-in-Ok-Err-clause-opened
returns-in-Ok-Err-clause-opened g c t opens =
    let why = rw c.in-Ok-Err.field-0-is at c.in-Ok-Err.ensures in
    refused-not_opened c.know.ensures.accepted c.in-Ok-Err.why t why opens

pub returns-in-Ok-Ok-clause-refused : goal.returns-in-Ok-Ok-clause-refused
returns-in-Ok-Ok-clause-refused g c why is =
    let by = rw c.in-Ok-Ok.field-0-is at c.in-Ok-Ok.ensures in
    refused-so c.know.ensures.accepted g.M.Sight.state g.M.Acting.marked c.opened.result
    (c.opened.ensures c.args.proc.now by) why is

pub returns-in-Ok-Ok-clause-opened : goal.returns-in-Ok-Ok-clause-opened
returns-in-Ok-Ok-clause-opened g c t opens =
    let by = rw c.in-Ok-Ok.field-0-is at c.in-Ok-Ok.ensures in
    opened-so c.know.ensures.accepted g.M.Sight.state g.M.Acting.marked c.opened.result
    (c.opened.ensures c.args.proc.now by) t opens
