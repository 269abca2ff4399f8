use Rattle.std.proofs.Common.{rules, pos, get_or, FitsSigned, unsigned_abs, sym, ap, ◌∙◌}
use Rattle.std.specs.Int.{w128}
use Rattle.std.proofs.lemmas.Int.{to_z-of_z}
use Rattle.nomos_simplex.specs.Divisors.{gcd}
use Rattle.nomos_simplex.proofs.DivisorLemmas.{common_more, common_from_one}
use Rattle.nomos_simplex.proofs.divisors.common_divisor.Goals as goal

-- 1 is the divisor whatever comes after
pub returns-then-divisor-eq1 : goal.returns-then-divisor-eq1
returns-then-divisor-eq1 c = sym (common_from_one c.args.first c.args.others.now c.loop-other.other-index
    (sym c.loop-other.invariant ∙ c.if-divisor-eq1.true))

-- one number more
pub loop-other-preserved : goal.loop-other-preserved
loop-other-preserved c =
    let x = get_or c.args.others.now c.loop-other.other-index (pos 0) in
    let fits : FitsSigned w128 x = search rules in
    let back = to_z-of_z w128 x fits in
    let more = common_more c.args.first c.args.others.now c.loop-other.other-index c.loop-other-test.true in
    let size = c.unsigned_abs.ensures.value ∙ ap unsigned_abs back in
    c.greatest_divisor-divisor.ensures ∙ (λ p. gcd (c.loop-other.invariant p) (size p)) ∙ sym more
