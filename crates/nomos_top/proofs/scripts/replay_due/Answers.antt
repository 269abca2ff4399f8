use Rattle.nomos_answers.proofs.SourceLemmas.{if_ok-map, if_err-map}
use Rattle.nomos_answers.specs.Outside.{HaveRisen, source_state}
use Rattle.nomos_top.proofs.DueLemmas.{ok-given, err-given, given-some, due-out, due-replay, part-nothing, part-replay}
use Rattle.nomos_top.proofs.scripts.replay_due.Goals as goal
use Rattle.nomos_words.specs.Words.{replay}

pub returns-in-Ok-clause-ok : goal.returns-in-Ok-clause-ok
returns-in-Ok-clause-ok g c = λ file words text.
    let f = c.in-Ok.ensures in
    ok-given c.accepted_replay_due.result c.in-Ok.accepted _ _ c.accepted_replay_due.ensures.given
    c.accepted_replay_due.ensures.untaken
    (λ d gives untaken due. due-replay _ file words text f.0 c.in-Ok.accepted d f.1 f.2 gives untaken due)
    c.accepted_replay_due.ensures.ok

pub returns-in-Ok-clause-err : goal.returns-in-Ok-clause-err
returns-in-Ok-clause-err g c = λ file words text.
    let f = c.in-Ok.ensures in
    err-given c.accepted_replay_due.result c.in-Ok.accepted _ _ c.accepted_replay_due.ensures.given
    c.accepted_replay_due.ensures.untaken
    (λ part gives untaken none. part-replay _ file words text f.0 c.in-Ok.accepted part f.1 f.2 gives untaken none)
    c.accepted_replay_due.ensures.err

pub returns-in-Ok-clause-unread_script : goal.returns-in-Ok-clause-unread_script
returns-in-Ok-clause-unread_script g c = λ none.
    given-some c.accepted_replay_due.result c.in-Ok.accepted c.accepted_replay_due.ensures.given none

pub returns-in-Ok-clause-unread_journal : goal.returns-in-Ok-clause-unread_journal
returns-in-Ok-clause-unread_journal g c = λ none.
    given-some c.accepted_replay_due.result c.in-Ok.accepted c.accepted_replay_due.ensures.given none

pub returns-in-Err-clause-ok : goal.returns-in-Err-clause-ok
returns-in-Err-clause-ok g c = λ file words text.
    let contract = source_state (g.S.Source.left c.args.contract.now) (g.S.Source.faults c.args.contract.now)
    (g.S.Source.faults c.judge.new.contract) in
    let f = c.in-Err.ensures in
    if_ok-map c.unaccepted_due.result _ _
    (λ d out. due-out _ (replay file words text) f.0 (HaveRisen contract.counts) c.in-Err.unaccepted d f.1
    (λ rose. (tt, rose)) f.2 out)
    c.unaccepted_due.ensures.ok

pub returns-in-Err-clause-err : goal.returns-in-Err-clause-err
returns-in-Err-clause-err g c = λ file words text.
    if_err-map c.unaccepted_due.result _ _ (λ part none. part-nothing _ (replay file words text) part none)
    c.unaccepted_due.ensures.err
