use Rattle.std.proofs.Common.{◌≡◌, take}
use Rattle.nomos_simplex.specs.Divisors.{common}
use Rattle.nomos_simplex.proofs.divisors.common_divisor.Given as goal

abbrev pub invariant-loop-other : goal.invariant-loop-other
invariant-loop-other l = l.divisor ≡ common l.first (take l.other-index l.others)
