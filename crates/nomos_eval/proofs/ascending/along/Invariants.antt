-- The pairs before do not have the variable.
use Rattle.nomos_eval.specs.mirror.Ascending.{StandsNotBelow}
use Rattle.nomos_eval.proofs.ascending.along.Given as goal

abbrev pub invariant-loop-at : goal.invariant-loop-at
invariant-loop-at g l = StandsNotBelow l.pairs l.v l.at
