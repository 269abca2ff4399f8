use Rattle.nomos_top.proofs.DueLemmas.{pooled-err, pooled-given, pooled-ok}
use Rattle.nomos_top.proofs.pool_due.accepted_pool_due.Goals as goal

pub returns-clause-ok : goal.returns-clause-ok
returns-clause-ok g c =
    rw c.pooled_behind.ensures
    (pooled-ok c.args.accepted c.args.threads _ c.pool_due-due.result c.pool_due-due.ensures.ok)

pub returns-clause-err : goal.returns-clause-err
returns-clause-err g c =
    rw c.pooled_behind.ensures
    (pooled-err c.args.accepted c.args.threads _ c.pool_due-due.result c.pool_due-due.ensures.err)

pub returns-clause-given : goal.returns-clause-given
returns-clause-given g c = rw c.pooled_behind.ensures (pooled-given c.args.accepted c.pool_due-due.result)
