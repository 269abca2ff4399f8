-- A blank stands behind the number in version 2 alone.
use Rattle.nomos_journal.proofs.LineLemmas.{pid_none, pid_some, firing_none, firing_reads}
use Rattle.nomos_journal.proofs.read.read_firing.Goals as goal

pub returns-in_err-read_u32 : goal.returns-in_err-read_u32
returns-in_err-read_u32 c = λ unit.
    rw c.from_residual.ensures (pid_none unit c.args.text.now c.in_default.ensures c.in_err-read_u32.ensures)

pub returns-in_default : goal.returns-in_default
returns-in_default c = λ unit.
    pid_some unit c.args.text.now c.in_ok-read_u32.field-0 c.in_default.ensures c.in_ok-read_u32.ensures

pub returns-in_err-read_u32-2 : goal.returns-in_err-read_u32-2
returns-in_err-read_u32-2 c = λ unit.
    rw c.from_residual-in_err-read_u32-2.ensures
    (firing_none unit c.args.text.now c.in-Some.pid.now c.in-Some.fired.now c.in-Some.ensures
    c.in_err-read_u32-2.ensures)

pub returns : goal.returns
returns c = λ unit.
    firing_reads unit c.args.text.now c.in-Some.pid.now c.in-Some.fired.now c.in_ok-read_u32-2.field-0
    c.read_fired.result c.in-Some.ensures c.in_ok-read_u32-2.ensures c.read_fired.ensures
