use Rattle.nomos_answers.proofs.SourceLemmas.{if_ok-map, if_err-map}
use Rattle.nomos_answers.specs.Outside.{HaveRisen, source_state}
use Rattle.nomos_top.proofs.DueLemmas.{ok-given, err-given, given-some, due-out, due-save, part-nothing, part-save}
use Rattle.nomos_top.proofs.snapshots.save_due.Goals as goal
use Rattle.nomos_words.specs.Words.{save}

pub returns-in-Ok-clause-ok : goal.returns-in-Ok-clause-ok
returns-in-Ok-clause-ok g c = λ file words kept third.
    let f = c.in-Ok.ensures in
    ok-given c.accepted_save_due.result c.in-Ok.accepted _ _ c.accepted_save_due.ensures.given
    c.accepted_save_due.ensures.untaken
    (λ d gives untaken due. due-save _ file words kept f.0 c.in-Ok.accepted d f.1 f.2 gives untaken due)
    c.accepted_save_due.ensures.ok

pub returns-in-Ok-clause-err : goal.returns-in-Ok-clause-err
returns-in-Ok-clause-err g c = λ file words kept third.
    let f = c.in-Ok.ensures in
    err-given c.accepted_save_due.result c.in-Ok.accepted _ _ c.accepted_save_due.ensures.given
    c.accepted_save_due.ensures.untaken
    (λ part gives untaken done. part-save _ file words kept f.0 c.in-Ok.accepted part f.1 f.2 gives untaken done)
    c.accepted_save_due.ensures.err

pub returns-in-Ok-clause-unread : goal.returns-in-Ok-clause-unread
returns-in-Ok-clause-unread g c = λ none.
    given-some c.accepted_save_due.result c.in-Ok.accepted c.accepted_save_due.ensures.given none

pub returns-in-Err-clause-ok : goal.returns-in-Err-clause-ok
returns-in-Err-clause-ok g c = λ file words kept third.
    let contract = source_state (g.S.Source.left c.args.contract.now) (g.S.Source.faults c.args.contract.now)
    (g.S.Source.faults c.judge.new.contract) in
    let f = c.in-Err.ensures in
    if_ok-map c.unaccepted_due.result _ _
    (λ d out. due-out _ (save file words kept) f.0 (HaveRisen contract.counts) c.in-Err.unaccepted d f.1
    (λ rose. (tt, rose)) f.2 out)
    c.unaccepted_due.ensures.ok

pub returns-in-Err-clause-err : goal.returns-in-Err-clause-err
returns-in-Err-clause-err g c = λ file words kept third.
    if_err-map c.unaccepted_due.result _ _ (λ part none. part-nothing _ (save file words kept) part none)
    c.unaccepted_due.ensures.err
