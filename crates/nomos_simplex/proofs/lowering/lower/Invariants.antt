use Rattle.nomos_simplex.specs.mirror.Steps.{LowersTo}
use Rattle.nomos_simplex.proofs.lowering.lower.Given as goal

abbrev pub invariant-loop-made : goal.invariant-loop-made
invariant-loop-made l = LowersTo l.rows l.goal l.made l.aimed
