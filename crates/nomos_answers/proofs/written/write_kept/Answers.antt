use Rattle.std.proofs.Common.{refl}
use Rattle.nomos_answers.specs.Written.{whole}
use Rattle.nomos_answers.proofs.written.write_kept.Goals as goal

pub returns-in-None-clause-written : goal.returns-in-None-clause-written
returns-in-None-clause-written g c = λ bytes out e. rw c.in-None.is (whole e refl)

pub returns-in-Some-clause-written : goal.returns-in-Some-clause-written
returns-in-Some-clause-written g c = λ bytes out e.
    rw c.in-Some.is (rw c.deref.ensures.value at (c.write_text.ensures bytes out e))
