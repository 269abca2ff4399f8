-- The first word says which end it is.
use Rattle.nomos_printing.proofs.EndLemmas.{plain_reads}
use Rattle.nomos_printing.proofs.end.read_end.Goals as goal

pub returns-in-Some : goal.returns-in-Some
returns-in-Some c = rw c.in-Some.ensures (c.read_aborted.ensures c.args.unit)

pub returns-in-Some-behind : goal.returns-in-Some-behind
returns-in-Some-behind c = rw c.in-Some-behind.ensures (c.read_steps.ensures c.args.unit)

pub returns : goal.returns
returns c =
    plain_reads c.args.unit c.args.text.now c.read_plain.result c.in_default.ensures c.in_default-behind.ensures
    c.in_default-behind-2.ensures (c.read_plain.ensures c.args.unit)
