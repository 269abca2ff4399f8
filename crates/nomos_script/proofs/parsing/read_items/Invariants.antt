-- The lines before the rest were read.
use Rattle.std.proofs.Common.{length}
use Rattle.nomos_script.proofs.LoopLemmas.{ReadSoFar}
use Rattle.nomos_script.proofs.parsing.read_items.Given as goal

abbrev pub invariant-loop-rest : goal.invariant-loop-rest
invariant-loop-rest l = ReadSoFar l.text l.rest l.number l.assembly

abbrev pub decreases-loop-rest : goal.decreases-loop-rest
decreases-loop-rest l = length l.rest
