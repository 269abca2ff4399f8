use Rattle.nomos_simplex.proofs.FractionLemmas.{gcd_over, quotient_over}
use Rattle.std.proofs.Common.{◌<◌, ◌/◌, sym, subst}
use Rattle.nomos_simplex.proofs.fractions.denominator.Goals as goal

pub nonzero_div-result : goal.nonzero_div-result
nonzero_div-result c = subst (λ g. 0 < g) (sym c.greatest_divisor.ensures) (gcd_over c.args.fraction.now.1
    c.args.fraction.now.0 c.requires.1)

pub returns-clause-over_zero : goal.returns-clause-over_zero
returns-clause-over_zero c = subst (λ g. 0 < c.args.fraction.now.1 / g) (sym c.greatest_divisor.ensures)
    (quotient_over c.args.fraction.now.1 c.args.fraction.now.0 c.requires.1)
