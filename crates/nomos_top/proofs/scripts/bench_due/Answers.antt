use Rattle.nomos_answers.proofs.SourceLemmas.{some_text, if_ok-map, if_err-map}
use Rattle.nomos_top.proofs.DueLemmas.{if_ok-both, ok-given, err-given, due-bench, due-out, part-bench, part-nothing}
use Rattle.nomos_top.proofs.scripts.bench_due.Goals as goal
use Rattle.nomos_words.specs.Words.{bench}

pub returns-in-Ok-clause-ok : goal.returns-in-Ok-clause-ok
returns-in-Ok-clause-ok c = λ contract script journal.
    ok-given c.accepted_bench_due.result c.in-Ok.accepted _ _ c.accepted_bench_due.ensures.given
    c.accepted_bench_due.ensures.untaken
    (λ d gives untaken due. due-bench _ c.args.load.seed c.args.load.bidders c.in-Ok.accepted d c.in-Ok.ensures gives
    untaken due.1
    due.0)
    (if_ok-both c.accepted_bench_due.result _ _ c.accepted_bench_due.ensures.ok c.accepted_bench_due.ensures.kept)

pub returns-in-Ok-clause-err : goal.returns-in-Ok-clause-err
returns-in-Ok-clause-err c = λ contract script journal.
    err-given c.accepted_bench_due.result c.in-Ok.accepted _ _ c.accepted_bench_due.ensures.given
    c.accepted_bench_due.ensures.untaken
    (λ part gives untaken done. part-bench _ c.args.load.seed c.args.load.bidders c.in-Ok.accepted part c.in-Ok.ensures
    gives untaken
    done)
    c.accepted_bench_due.ensures.err

pub returns-in-Err-clause-ok : goal.returns-in-Err-clause-ok
returns-in-Err-clause-ok c = λ contract script journal.
    let t = some_text contract.left in
    if_ok-map c.unaccepted_due.result _ _
    (λ d out. due-out _ (bench c.args.load.seed c.args.load.bidders) t.0 ⊥ c.in-Err.unaccepted d t.1
    (λ never. absurd never) c.in-Err.ensures out)
    c.unaccepted_due.ensures.ok

pub returns-in-Err-clause-err : goal.returns-in-Err-clause-err
returns-in-Err-clause-err c = λ contract script journal.
    if_err-map c.unaccepted_due.result _ _
    (λ part none. part-nothing _ (bench c.args.load.seed c.args.load.bidders) part none) c.unaccepted_due.ensures.err
