-- The table of faults has each of them.
use Rattle.nomos_printing.proofs.NamingLemmas.{fault_named_reads}
use Rattle.nomos_printing.proofs.fault_texts.read_fault.Goals as goal

pub returns : goal.returns
returns c = rw c.fault_named.ensures (fault_named_reads c.args.text.now)
