use Rattle.std.proofs.Common.{◌∙◌}
use Rattle.std.proofs.lemmas.Nat.Gcd.{IsGcd-from_mod}
use Rattle.nomos_simplex.specs.Divisors.{gcd}
use Rattle.nomos_simplex.proofs.DivisorLemmas.{gcd_is, gcd_unique}
use Rattle.nomos_simplex.proofs.divisors.greatest_divisor.Goals as goal

pub loop-less-preserved : goal.loop-less-preserved
loop-less-preserved c g h = c.loop-less.invariant g (IsGcd-from_mod _ _ g h)

pub returns : goal.returns
returns c =
    let greater = c.loop-less.greater in
    let less = c.loop-less.less in
    c.mixed_divisor.ensures ∙ gcd_unique c.args.a c.args.b (gcd greater less) (c.loop-less.invariant (gcd greater less)
    (gcd_is greater less))
