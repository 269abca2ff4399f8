use Rattle.std.proofs.Common.{refl}
use Rattle.nomos_answers.specs.Written.{out_fault}
use Rattle.nomos_answers.proofs.written.write_due.Goals as goal

pub returns-in-Ok-clause-written : goal.returns-in-Ok-clause-written
returns-in-Ok-clause-written g c =
    c.write_kept.ensures.written _ _ (rw c.deref.ensures.value at c.in-Ok.ensures.whole)

pub returns-in-Err-clause-written : goal.returns-in-Err-clause-written
returns-in-Err-clause-written g c =
    out_fault c.in-Err.ensures.fault_rose (rw c.deref.ensures.value at c.in-Err.ensures.fault_prefix) refl
