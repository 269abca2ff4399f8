use Rattle.std.proofs.Common.{◌<◌, ◌^◌, get_or, take, sym, subst, ◌∙◌, arith}
use Rattle.nomos_simplex.specs.Divisors.{lcm}
use Rattle.nomos_simplex.specs.Exits.{common_denominator, denominator}
use Rattle.nomos_simplex.proofs.FractionLemmas.{common_more, lcm_over, quotient_over}
use Rattle.nomos_simplex.proofs.fractions.common_denominator.Goals as goal
use Rattle.nomos_simplex.proofs.fractions.common_denominator.Goals.{then-unit-le-MOST_PARTS, else-unit-le-MOST_PARTS}

-- one fraction more
pub loop-fraction-preserved : goal.loop-fraction-preserved
loop-fraction-preserved c =
    let fs = c.args.fractions.now in
    let i = c.loop-fraction.fraction-index in
    let so_far = common_denominator 1 (take i fs) in
    let next = get_or fs i (0, 0) in
    let inv = c.loop-fraction.invariant in
    let more = common_more 1 fs i (0, 0) c.loop-fraction-test.true in
    elim c.if-unit-le-MOST_PARTS.branch [
      | then-unit-le-MOST_PARTS w ↦
          let is = w.unit-is ∙ w.common_multiple-unit.ensures.value ∙ (λ p. lcm (inv.same w.if-unit-le-MOST_PARTS.true
          p) (w.denominator.ensures.value p)) ∙ sym more in
          let over = w.common_multiple-unit.ensures.over in
          record {
            same = λ _. is;
            over = λ h. subst (λ x. 2 ^ 31 < x) is h;
            positive = omega (arith, w.unit-is, over, inv.positive);
          }
      | else-unit-le-MOST_PARTS w ↦
          let before : 2 ^ 31 < so_far = inv.over w.if-unit-le-MOST_PARTS.false in
          let den : 0 < denominator next = quotient_over next.1 next.0 (c.requires i
          (0, 0) c.loop-fraction-test.true).1 in
          let over = lcm_over so_far (denominator next) den in
          record {
            same = λ h. absurd (omega (arith, w.unit-is, w.if-unit-le-MOST_PARTS.false));
            over = λ _. omega (arith, more, over, before);
            positive = omega (arith, w.unit-is, inv.positive);
          }
    ]
