use Rattle.nomos_forms.specs.Refuting.{LeavesNoStar}
use Rattle.nomos_forms.proofs.refuting.leaves_no_star.Given as goal

abbrev pub invariant-loop-before : goal.invariant-loop-before
invariant-loop-before l = LeavesNoStar l.before l.weights
