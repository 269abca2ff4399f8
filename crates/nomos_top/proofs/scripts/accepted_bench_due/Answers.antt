use Rattle.std.proofs.Common.{ap}
use Rattle.nomos_machine.specs.declared.policy.Policy.TheVariants as policy
use Rattle.nomos_top.proofs.DueLemmas.{behind-err, behind-given, behind-ok, behind-untaken}
use Rattle.nomos_top.proofs.scripts.accepted_bench_due.Goals as goal

pub indexed_bench_due-due-requires-clause-one : goal.indexed_bench_due-due-requires-clause-one
indexed_bench_due-due-requires-clause-one c = (policy.First, ap (λ orders. orders.crew) c.bench_orders.ensures)

pub returns-clause-ok : goal.returns-clause-ok
returns-clause-ok c = rw c.due_behind.ensures
    (behind-ok c.args.accepted c.indexed_bench_due-due.result _
    (rw c.bench_orders.ensures at c.indexed_bench_due-due.ensures.ok))

pub returns-clause-kept : goal.returns-clause-kept
returns-clause-kept c =
    rw c.due_behind.ensures (behind-ok c.args.accepted c.indexed_bench_due-due.result _
    c.indexed_bench_due-due.ensures.kept)

pub returns-clause-err : goal.returns-clause-err
returns-clause-err c = rw c.due_behind.ensures
    (behind-err c.args.accepted c.indexed_bench_due-due.result _
    (rw c.bench_orders.ensures at c.indexed_bench_due-due.ensures.err))

pub returns-clause-given : goal.returns-clause-given
returns-clause-given c = rw c.due_behind.ensures (behind-given c.args.accepted c.indexed_bench_due-due.result)

pub returns-clause-untaken : goal.returns-clause-untaken
returns-clause-untaken c = rw c.due_behind.ensures (behind-untaken c.args.accepted c.indexed_bench_due-due.result)
