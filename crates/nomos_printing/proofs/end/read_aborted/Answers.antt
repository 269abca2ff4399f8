-- A blank stands between the number and the fault.
use Rattle.nomos_printing.proofs.EndLemmas.{aborted_whole, aborted_pid, aborted_fault, aborted_both}
use Rattle.nomos_printing.proofs.end.read_aborted.Goals as goal

pub returns-in_err-pid : goal.returns-in_err-pid
returns-in_err-pid c = λ unit. rw c.from_residual.ensures (aborted_whole unit c.args.text.now c.in_err-pid.ensures)

pub returns-in_err-pid-2 : goal.returns-in_err-pid-2
returns-in_err-pid-2 c = λ unit.
    rw c.from_residual-in_err-pid-2.ensures
    (aborted_pid unit c.args.text.now c.in_ok-pid.pid.now c.in_ok-pid.fault.now c.in_ok-pid.ensures
    c.in_err-pid-2.ensures)

pub returns-in_err-fault : goal.returns-in_err-fault
returns-in_err-fault c = λ unit.
    rw c.from_residual-in_err-fault.ensures
    (aborted_fault unit c.args.text.now c.in_ok-pid.pid.now c.in_ok-pid.fault.now c.in_ok-pid.ensures
    c.in_err-fault.ensures)

pub returns : goal.returns
returns c = λ unit.
    aborted_both unit c.args.text.now c.in_ok-pid.pid.now c.in_ok-pid.fault.now c.in_ok-pid-2.pid c.in_ok-fault.fault
    c.in_ok-pid.ensures c.in_ok-pid-2.ensures c.in_ok-fault.ensures
