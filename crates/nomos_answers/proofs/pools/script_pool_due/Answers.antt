use Rattle.nomos_answers.proofs.PoolDueLemmas.{pool-refused, pool-refused_part, pool-taken, pool-taken_part}
use Rattle.nomos_answers.proofs.SourceLemmas.{if_err-map, if_ok-map}
use Rattle.nomos_answers.proofs.pools.script_pool_due.Goals as goal

pub returns-in-Ok-Ok-clause-ok : goal.returns-in-Ok-Ok-clause-ok
returns-in-Ok-Ok-clause-ok g c =
    let comes = rw c.in-Ok-Ok.field-0-is at c.in-Ok-Ok.ensures.pools in
    if_ok-map c.taken_due.result _ _
    (λ p run. pool-taken c.args.accepted.now c.args.threads c.args.script c.in-Ok-Ok.taken p comes run)
    c.taken_due.ensures.ok

pub returns-in-Ok-Ok-clause-err : goal.returns-in-Ok-Ok-clause-err
returns-in-Ok-Ok-clause-err g c =
    let comes = rw c.in-Ok-Ok.field-0-is at c.in-Ok-Ok.ensures.pools in
    if_err-map c.taken_due.result _ _
    (λ p run. pool-taken_part c.args.accepted.now c.args.threads c.args.script c.in-Ok-Ok.taken p comes run)
    c.taken_due.ensures.err

pub returns-in-Ok-Err-clause-ok : goal.returns-in-Ok-Err-clause-ok
returns-in-Ok-Err-clause-ok g c =
    rw c.untaken.ensures
    (pool-refused c.args.accepted.now c.args.threads c.args.script c.in-Ok-Err.line c.refused_at_due.result
    (rw c.in-Ok-Err.field-0-is at c.in-Ok-Err.ensures.pools) c.refused_at_due.ensures.ok)

pub returns-in-Ok-Err-clause-err : goal.returns-in-Ok-Err-clause-err
returns-in-Ok-Err-clause-err g c =
    rw c.untaken.ensures
    (pool-refused_part c.args.accepted.now c.args.threads c.args.script c.refused_at_due.result
    c.refused_at_due.ensures.err)
