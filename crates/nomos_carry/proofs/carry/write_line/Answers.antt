use Rattle.nomos_answers.specs.Written.{out_fault, whole}
use Rattle.nomos_carry.proofs.carry.write_line.Goals as goal

pub returns-in-Ok-clause-written : goal.returns-in-Ok-clause-written
returns-in-Ok-clause-written g c = λ beside same. whole c.in-Ok.ensures.whole same

pub returns-in-Err-clause-written : goal.returns-in-Err-clause-written
returns-in-Err-clause-written g c = λ beside same.
    out_fault c.in-Err.ensures.fault_rose c.in-Err.ensures.fault_prefix same
