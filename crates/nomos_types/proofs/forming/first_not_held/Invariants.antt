use Rattle.nomos_types.specs.mirror.Least.{IsLeast}
use Rattle.nomos_types.specs.mirror.Offences.{NotHeldBelow}
use Rattle.nomos_types.proofs.forming.first_not_held.Given as goal

-- the parameters so far
abbrev pub invariant-loop-par : goal.invariant-loop-par
invariant-loop-par l = IsLeast (NotHeldBelow l.program l.d l.par-index) l.first
