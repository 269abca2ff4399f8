-- The digits that are left lead from the number so far to the whole one.
use Rattle.std.proofs.Common.{length}
use Rattle.nomos_script.proofs.NumberLemmas.{ReadDigits}
use Rattle.nomos_script.proofs.digits.number_of_digits.Given as goal

abbrev pub invariant-loop-left : goal.invariant-loop-left
invariant-loop-left l = ReadDigits l.digits l.left l.number

abbrev pub decreases-loop-left : goal.decreases-loop-left
decreases-loop-left l = length l.left
