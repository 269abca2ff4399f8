-- The number that was said so far is one that may be.
use Rattle.std.proofs.Common.{length}
use Rattle.std.specs.Prelude.{IfSome}
use Rattle.nomos_legal.specs.Legal.{IsLimit}
use Rattle.nomos_tell.proofs.words.options_of.Given as goal

abbrev pub invariant-loop-left : goal.invariant-loop-left
invariant-loop-left l = IfSome l.options.steps IsLimit

abbrev pub decreases-loop-left : goal.decreases-loop-left
decreases-loop-left l = length l.left
