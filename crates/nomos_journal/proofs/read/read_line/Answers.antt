-- A line of an end begins with its word.
use Rattle.nomos_journal.proofs.LineLemmas.{short_reads, end_none, end_some}
use Rattle.nomos_journal.proofs.read.read_line.Goals as goal

pub returns-in_default : goal.returns-in_default
returns-in_default c =
    short_reads c.args.unit c.args.text.now c.read_short.result c.in_default.ensures (c.read_short.ensures c.args.unit)

pub returns-in-Some-2 : goal.returns-in-Some-2
returns-in-Some-2 c =
    let told = rw c.in-Some-2.is at c.in_ok-end.ensures in
    end_some c.args.unit c.args.text.now c.in-Some.end.now c.in-Some-2.end c.in-Some.ensures told

pub returns-in-None : goal.returns-in-None
returns-in-None c =
    let told = rw c.in-None.is at c.in_ok-end.ensures in
    end_none c.args.unit c.args.text.now c.in-Some.end.now c.in-Some.ensures told
