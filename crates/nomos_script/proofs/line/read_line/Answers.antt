-- A line without tokens is blank.
use Rattle.std.proofs.Common.{refl}
use Rattle.nomos_script.specs.Form.{blank}
use Rattle.nomos_script.proofs.line.read_line.Goals as goal

pub returns-in-None-clause-read : goal.returns-in-None-clause-read
returns-in-None-clause-read c =
    (blank, record { printed = rw c.new-tokens.ensures at c.in-None.ensures.next.0; valid = tt }, refl)
