use Rattle.nomos_types.specs.mirror.Least.{IsLeast}
use Rattle.nomos_types.specs.mirror.Offences.{ForbiddenBelow}
use Rattle.nomos_types.proofs.forming.first_forbidden.Given as goal

-- the type nodes so far
abbrev pub invariant-loop-i : goal.invariant-loop-i
invariant-loop-i l = IsLeast (ForbiddenBelow l.program l.i) l.first
