use Rattle.std.proofs.Common.{ℕ, ap, subst}
use Rattle.nomos_answers.proofs.SourceLemmas.{if_ok-map, if_err-map}
use Rattle.nomos_run.specs.declared.orders.Orders.{Orders}
use Rattle.nomos_top.specs.mirror.Judging.{IsDueOut, IsNothing}
use Rattle.nomos_answers.specs.Outside.{HaveRisen, source_state}
use Rattle.nomos_top.proofs.DueLemmas.{ok-given, err-given, given-some, due-out, due-run, part-nothing, part-run}
use Rattle.nomos_top.proofs.crew_due.script_due_by_crew.Goals as goal
use Rattle.nomos_words.specs.Words.{run}

pub returns-in-Ok-clause-ok : goal.returns-in-Ok-clause-ok
returns-in-Ok-clause-ok g c = λ file words by steps kept journal same.
    let f = c.in-Ok.ensures in
    ok-given c.accepted_script_due_by_crew.result c.in-Ok.accepted _ _ c.accepted_script_due_by_crew.ensures.given
    c.accepted_script_due_by_crew.ensures.untaken
    (λ d gives untaken due. due-run _ file words by steps kept c.args.orders f.0 c.in-Ok.accepted d f.1 f.2 gives
    untaken same due)
    c.accepted_script_due_by_crew.ensures.ok

pub returns-in-Ok-clause-err : goal.returns-in-Ok-clause-err
returns-in-Ok-clause-err g c = λ file words by steps kept journal same.
    let f = c.in-Ok.ensures in
    err-given c.accepted_script_due_by_crew.result c.in-Ok.accepted _ _ c.accepted_script_due_by_crew.ensures.given
    c.accepted_script_due_by_crew.ensures.untaken
    (λ part gives untaken done. part-run _ file words by steps kept c.args.orders f.0 c.in-Ok.accepted part f.1 f.2
    gives untaken same
    done)
    c.accepted_script_due_by_crew.ensures.err

pub returns-in-Ok-clause-unread : goal.returns-in-Ok-clause-unread
returns-in-Ok-clause-unread g c = λ none.
    given-some c.accepted_script_due_by_crew.result c.in-Ok.accepted c.accepted_script_due_by_crew.ensures.given none

pub returns-in-Err-clause-ok : goal.returns-in-Err-clause-ok
returns-in-Err-clause-ok g c = λ file words by steps kept journal same.
    let contract = source_state (g.S.Source.left c.args.contract.now) (g.S.Source.faults c.args.contract.now)
    (g.S.Source.faults c.judge.new.contract) in
    let f = c.in-Err.ensures in
    if_ok-map c.unaccepted_due.result _ _
    (λ d out. due-out _ (run file words by steps kept) f.0 (HaveRisen contract.counts)
    c.in-Err.unaccepted d f.1 (λ rose. (tt, rose)) f.2
    (subst (λ (n : ℕ). IsDueOut n c.in-Err.unaccepted d) (ap (λ (o : Orders). o.limit) same) out))
    c.unaccepted_due.ensures.ok

pub returns-in-Err-clause-err : goal.returns-in-Err-clause-err
returns-in-Err-clause-err g c = λ file words by steps kept journal same.
    if_err-map c.unaccepted_due.result _ _
    (λ part none. part-nothing _ (run file words by steps kept) part
    (subst (λ (n : ℕ). IsNothing n part) (ap (λ (o : Orders). o.limit) same) none))
    c.unaccepted_due.ensures.err
