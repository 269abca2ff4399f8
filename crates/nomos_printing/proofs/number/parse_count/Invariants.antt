-- The digits that are left lead from the count so far to the whole number.
use Rattle.std.proofs.Common.{length}
use Rattle.nomos_printing.proofs.CountLemmas.{Counted}
use Rattle.nomos_printing.proofs.number.parse_count.Given as goal

abbrev pub invariant-loop-left : goal.invariant-loop-left
invariant-loop-left l = Counted l.text l.left l.count

abbrev pub decreases-loop-left : goal.decreases-loop-left
decreases-loop-left l = length l.left
