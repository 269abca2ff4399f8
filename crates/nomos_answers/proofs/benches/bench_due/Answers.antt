use Rattle.nomos_answers.specs.Benches as benches
use Rattle.nomos_answers.proofs.BenchLemmas.{bench-due, bench-part}
use Rattle.nomos_answers.proofs.SourceLemmas.{if_err-map, if_ok-map}
use Rattle.nomos_answers.proofs.benches.bench_due.Goals as goal

pub returns-in-Ok-clause-ok : goal.returns-in-Ok-clause-ok
returns-in-Ok-clause-ok g c =
    if_ok-map c.ran_load_due.result _ _
    (λ due run. bench-due c.args.accepted.now c.args.orders c.args.load c.in-Ok.script due c.in-Ok.ensures run)
    c.ran_load_due.ensures.ok

pub returns-in-Ok-clause-err : goal.returns-in-Ok-clause-err
returns-in-Ok-clause-err g c =
    if_err-map c.ran_load_due.result _ _
    (λ journal part. bench-part c.args.accepted.now c.args.orders c.args.load c.in-Ok.script journal c.in-Ok.ensures
    part)
    c.ran_load_due.ensures.err

pub returns-in-Err-clause-err : goal.returns-in-Err-clause-err
returns-in-Err-clause-err g c = rw c.no_entries.ensures benches.not_run
