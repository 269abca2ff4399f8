use Rattle.nomos_simplex.proofs.FractionLemmas.{gcd_over, lcm_over}
use Rattle.std.proofs.Common.{◌<◌, ◌≤◌, ◌/◌, ◌*◌, sym, subst}
use Rattle.nomos_simplex.proofs.fractions.common_multiple.Goals as goal

pub nonzero_div-result : goal.nonzero_div-result
nonzero_div-result c = subst (λ g. 0 < g) (sym c.greatest_divisor.ensures) (gcd_over c.args.a c.args.b c.requires.a)

pub returns-clause-over : goal.returns-clause-over
returns-clause-over c = subst (λ g. c.args.a ≤ c.args.a / g * c.args.b) (sym c.greatest_divisor.ensures)
    (lcm_over c.args.a c.args.b c.requires.b)
