use Rattle.std.proofs.Common.{◌≡◌, ◌++◌, take, drop, map, int_div}
use Rattle.nomos_simplex.proofs.divisors.divide_all.Given as goal

-- the first numbers are divided
abbrev pub invariant-loop-i : goal.invariant-loop-i
invariant-loop-i l = l.numbers ≡ map (λ z. int_div z l.by) (take l.i l.fn.numbers) ++ drop l.i l.fn.numbers
