use Rattle.nomos_answers.specs.Outside.{source_state}
use Rattle.nomos_answers.proofs.TalkCountLaws.{talk-few}
use Rattle.nomos_answers.proofs.TalkDueLemmas.{part-untold, talks-in, talks-none}
use Rattle.nomos_answers.proofs.talks.script_talk_due.Goals as goal

pub ran_talk_due-requires-clause-few : goal.ran_talk_due-requires-clause-few
ran_talk_due-requires-clause-few g c = rw c.as_slice.ensures (talk-few c.in-Ok.ensures.2)

pub returns-in-Ok-clause-ok : goal.returns-in-Ok-clause-ok
returns-in-Ok-clause-ok g c =
    let talk = source_state (g.S.Source.left c.args.text.now) (g.S.Source.faults c.args.text.now)
    (g.S.Source.faults c.read_talk.new.text) in
    let f = c.in-Ok.ensures in
    talks-in c.args.accepted.now c.args.party.name.now c.args.party.proc.now c.args.script.now talk f.0 c.in-Ok.lines
    c.ran_talk_due.result f.1 f.2 (rw c.as_slice.ensures at c.ran_talk_due.ensures.ok)

pub returns-in-Err-clause-ok : goal.returns-in-Err-clause-ok
returns-in-Err-clause-ok g c =
    let talk = source_state (g.S.Source.left c.args.text.now) (g.S.Source.faults c.args.text.now)
    (g.S.Source.faults c.read_talk.new.text) in
    let f = c.in-Err.ensures in
    talks-none c.args.accepted.now c.args.party.name.now c.args.party.proc.now c.args.script.now talk f.0 c.in-Err.why
    c.no_talk_due.result f.1 f.2 c.no_talk_due.ensures.ok

pub returns-in-Err-clause-err : goal.returns-in-Err-clause-err
returns-in-Err-clause-err g c =
    part-untold c.args.accepted.now c.args.script.now c.no_talk_due.result c.no_talk_due.ensures.err
