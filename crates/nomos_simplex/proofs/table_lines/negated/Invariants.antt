use Rattle.std.proofs.Common.{◌≡◌, take, map, neg_ℤ}
use Rattle.nomos_simplex.proofs.table_lines.negated.Given as goal

abbrev pub invariant-loop-i : goal.invariant-loop-i
invariant-loop-i l = l.negated.items ≡ map neg_ℤ (take l.i l.numbers)
