use Rattle.std.proofs.Common.{◌%◌, ap, ◌∙◌, arith}
use Rattle.std.proofs.lemmas.Nat.Gcd.{IsGcd-from_zero, IsGcd-from_mod}
use Rattle.nomos_simplex.specs.Divisors.{gcd}
use Rattle.nomos_simplex.proofs.DivisorLemmas.{gcd_is, gcd_unique}
use Rattle.nomos_simplex.proofs.divisors.mixed_divisor.Goals as goal

pub returns-then-b-eq0 : goal.returns-then-b-eq0
returns-then-b-eq0 c = gcd_unique c.args.a c.args.b c.args.a (IsGcd-from_zero _ _ (omega arith))

pub returns : goal.returns
returns c =
    let a = c.args.a in
    let b = c.args.b in
    let value = c.from.ensures ∙ c.narrow_divisor.ensures ∙ ap (gcd b) c.remainder.ensures in
    value ∙ gcd_unique a b (gcd b (a % b)) (IsGcd-from_mod a b (gcd b (a % b)) (gcd_is b (a % b)))
