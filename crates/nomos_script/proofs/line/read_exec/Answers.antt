-- A transaction is what its tokens say.
use Rattle.nomos_script.proofs.FormLemmas.{exec_read}
use Rattle.nomos_script.proofs.line.read_exec.Goals as goal

pub returns-clause-read : goal.returns-clause-read
returns-clause-read c =
    exec_read c.args.number c.args.tokens.now c.in_ok-read_start.field-0 c.in_ok-read_start.ensures.read
