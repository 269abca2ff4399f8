use Rattle.nomos_answers.proofs.SourceLemmas.{if_ok-map, if_err-map}
use Rattle.nomos_answers.specs.Outside.{HaveRisen, source_state}
use Rattle.nomos_top.proofs.DueLemmas.{ok-pooled, err-pooled, given-some, due-out, due-pool, part-nothing, part-pool}
use Rattle.nomos_top.proofs.pool_due.pool_due.Goals as goal
use Rattle.nomos_words.specs.Words.{pool}

pub returns-in-Ok-clause-ok : goal.returns-in-Ok-clause-ok
returns-in-Ok-clause-ok g c = λ file words third.
    let f = c.in-Ok.ensures in
    ok-pooled c.accepted_pool_due.result c.in-Ok.accepted _ _ c.accepted_pool_due.ensures.given
    (λ d gives due. due-pool _ file words c.args.threads f.0 c.in-Ok.accepted d f.1 f.2 gives due)
    c.accepted_pool_due.ensures.ok

pub returns-in-Ok-clause-err : goal.returns-in-Ok-clause-err
returns-in-Ok-clause-err g c = λ file words third.
    let f = c.in-Ok.ensures in
    err-pooled c.accepted_pool_due.result c.in-Ok.accepted _ _ c.accepted_pool_due.ensures.given
    (λ part gives done. part-pool _ file words c.args.threads f.0 c.in-Ok.accepted part f.1 f.2 gives done)
    c.accepted_pool_due.ensures.err

pub returns-in-Ok-clause-unread : goal.returns-in-Ok-clause-unread
returns-in-Ok-clause-unread g c = λ none.
    given-some c.accepted_pool_due.result c.in-Ok.accepted c.accepted_pool_due.ensures.given none

pub returns-in-Err-clause-ok : goal.returns-in-Err-clause-ok
returns-in-Err-clause-ok g c = λ file words third.
    let contract = source_state (g.S.Source.left c.args.contract.now) (g.S.Source.faults c.args.contract.now)
    (g.S.Source.faults c.judge.new.contract) in
    let f = c.in-Err.ensures in
    if_ok-map c.unaccepted_due.result _ _
    (λ d out. due-out _ (pool file words c.args.threads) f.0 (HaveRisen contract.counts) c.in-Err.unaccepted d f.1
    (λ rose. (tt, rose)) f.2 out)
    c.unaccepted_due.ensures.ok

pub returns-in-Err-clause-err : goal.returns-in-Err-clause-err
returns-in-Err-clause-err g c = λ file words third.
    if_err-map c.unaccepted_due.result _ _ (λ part none. part-nothing _ (pool file words c.args.threads) part none)
    c.unaccepted_due.ensures.err
