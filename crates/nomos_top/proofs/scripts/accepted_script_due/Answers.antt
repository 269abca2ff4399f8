use Rattle.nomos_top.proofs.DueLemmas.{behind-err, behind-given, behind-ok, behind-untaken}
use Rattle.nomos_top.proofs.scripts.accepted_script_due.Goals as goal

pub returns-clause-ok : goal.returns-clause-ok
returns-clause-ok g c =
    rw c.due_behind.ensures (behind-ok c.args.accepted c.run_due-due.result _ c.run_due-due.ensures.ok)

pub returns-clause-err : goal.returns-clause-err
returns-clause-err g c =
    rw c.due_behind.ensures (behind-err c.args.accepted c.run_due-due.result _ c.run_due-due.ensures.err)

pub returns-clause-given : goal.returns-clause-given
returns-clause-given g c = rw c.due_behind.ensures (behind-given c.args.accepted c.run_due-due.result)

pub returns-clause-untaken : goal.returns-clause-untaken
returns-clause-untaken g c = rw c.due_behind.ensures (behind-untaken c.args.accepted c.run_due-due.result)
