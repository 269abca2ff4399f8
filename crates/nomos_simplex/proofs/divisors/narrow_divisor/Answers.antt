use Rattle.std.proofs.Common.{arith}
use Rattle.std.proofs.lemmas.Nat.Gcd.{IsGcd-from_zero, IsGcd-from_mod}
use Rattle.nomos_simplex.proofs.DivisorLemmas.{gcd_unique}
use Rattle.nomos_simplex.proofs.divisors.narrow_divisor.Goals as goal

pub loop-less-preserved : goal.loop-less-preserved
loop-less-preserved c g h = c.loop-less.invariant g (IsGcd-from_mod _ _ g h)

pub returns : goal.returns
returns c = gcd_unique c.args.a c.args.b c.loop-less.greater (c.loop-less.invariant c.loop-less.greater
    (IsGcd-from_zero _ _ (omega arith)))
