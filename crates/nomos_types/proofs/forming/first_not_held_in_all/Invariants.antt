use Rattle.nomos_types.specs.mirror.Least.{IsLeast}
use Rattle.nomos_types.specs.mirror.Offences.{NotHeldInBelow}
use Rattle.nomos_types.proofs.forming.first_not_held_in_all.Given as goal

-- the declarations so far
abbrev pub invariant-loop-d : goal.invariant-loop-d
invariant-loop-d l = IsLeast (NotHeldInBelow l.program l.d-index) l.first
