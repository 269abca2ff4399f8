use Rattle.std.proofs.Common.{refl}
use Rattle.nomos_answers.specs.Written.{journal_fault, whole}
use Rattle.nomos_answers.proofs.written.write_text.Goals as goal

pub returns-in-Ok : goal.returns-in-Ok
returns-in-Ok g c = λ bytes out e. whole e c.in-Ok.ensures.whole

pub returns-in-Err : goal.returns-in-Err
returns-in-Err g c = λ bytes out e. journal_fault c.args.text.now refl e c.in-Err.ensures.fault_rose
    c.in-Err.ensures.fault_prefix
