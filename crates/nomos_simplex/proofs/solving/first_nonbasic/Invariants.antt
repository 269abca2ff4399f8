use Rattle.std.proofs.Common.{◌≡◌}
use Rattle.std.specs.List.{range_with_len}
use Rattle.nomos_simplex.proofs.solving.first_nonbasic.Given as goal

abbrev pub invariant-loop-before : goal.invariant-loop-before
invariant-loop-before l = l.nonbasic.items ≡ range_with_len 1 l.before
