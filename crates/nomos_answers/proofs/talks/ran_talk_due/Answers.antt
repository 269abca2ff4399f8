use Rattle.std.proofs.Common.{length}
use Rattle.nomos_answers.proofs.SourceLemmas.{if_ok-map}
use Rattle.nomos_answers.proofs.TalkDueLemmas.{whole-room, whole-talks}
use Rattle.nomos_answers.proofs.WholeLemmas.{part-behind, whole-run}
use Rattle.nomos_answers.proofs.talks.ran_talk_due.Goals as goal

pub talked_due-requires-clause-room : goal.talked_due-requires-clause-room
talked_due-requires-clause-room g c =
    let runs = rw c.usual_orders.ensures at c.run_script-journal.ensures.runs in
    whole-room c.know.ensures.accepted (whole-run c.in-Some.whole runs c.in-Some.is)
    c.items-items.ensures.size (length c.args.visit.lines.now) c.requires.few

pub returns-in-Some-clause-ok : goal.returns-in-Some-clause-ok
returns-in-Some-clause-ok g c =
    let runs = rw c.usual_orders.ensures at c.run_script-journal.ensures.runs in
    if_ok-map c.talked_due.result _ _
    (λ due talks. whole-talks (whole-run c.in-Some.whole runs c.in-Some.is) due talks) c.talked_due.ensures.ok

pub returns-in-Some-clause-err : goal.returns-in-Some-clause-err
returns-in-Some-clause-err g c =
    part-behind (rw c.usual_orders.ensures at c.run_script-journal.ensures.runs) c.talked_due.result
    c.talked_due.ensures.err
