use Rattle.std.proofs.Common.{◌≡◌, ◌<◌, ◌≤◌, ◌*◌, ◌/◌, ◌^◌, Some, ap, sym, ◌∙◌, arith, subst}
use Rattle.std.proofs.Math.Nat.{mul-le-mul_right}
use Rattle.nomos_simplex.specs.Exits.{denominator}
use Rattle.nomos_simplex.proofs.FractionLemmas.{gcd_over, quotient_over, amount_is, unit_quotient, small_none, small_some}
use Rattle.nomos_simplex.proofs.fractions.amount.Goals as goal

pub nonzero_div-parts : goal.nonzero_div-parts
nonzero_div-parts c = subst (λ g. 0 < g) (sym c.greatest_divisor-divisor.ensures) (gcd_over c.args.fraction.now.1
    c.args.fraction.now.0 c.requires.fraction.1)

pub nonzero_div-amount : goal.nonzero_div-amount
nonzero_div-amount c = subst (λ g. 0 < g) (sym c.greatest_divisor-divisor.ensures) (gcd_over c.args.fraction.now.1
    c.args.fraction.now.0 c.requires.fraction.1)

pub nonzero_div-amount-2 : goal.nonzero_div-amount-2
nonzero_div-amount-2 c = subst (λ g. 0 < c.args.fraction.now.1 / g) (sym c.greatest_divisor-divisor.ensures)
    (quotient_over c.args.fraction.now.1 c.args.fraction.now.0 c.requires.fraction.1)

pub returns-then-parts-ge-TOO_MANY : goal.returns-then-parts-ge-TOO_MANY
returns-then-parts-ge-TOO_MANY c =
    let f = c.args.fraction.now in
    let unit = c.args.unit in
    let e = c.greatest_divisor-divisor.ensures in
    let parts = f.0 / c.greatest_divisor-divisor.result in
    let value : unit * f.0 / f.1 ≡ unit / denominator f * parts = amount_is unit f c.requires.fraction.1
    c.requires.whole ∙ ap (λ g. unit / denominator f * (f.0 / g)) (sym e) in
    let over = unit_quotient (denominator f) unit c.requires.whole c.requires.over in
    let more = mul-le-mul_right parts over in
    let large = c.if-parts-ge-TOO_MANY.true in
    small_none (unit * f.0 / f.1) (2 ^ 62) (omega (arith, value, more, large))

pub returns-then-amount-ge-TOO_MANY : goal.returns-then-amount-ge-TOO_MANY
returns-then-amount-ge-TOO_MANY c =
    let f = c.args.fraction.now in
    let unit = c.args.unit in
    let e = c.greatest_divisor-divisor.ensures in
    let value = amount_is unit f c.requires.fraction.1 c.requires.whole
    ∙ (λ p. unit / (f.1 / sym e p) * (f.0 / sym e p)) in
    small_none (unit * f.0 / f.1) (2 ^ 62) (subst (λ x. 2 ^ 62 ≤ x) (sym value) c.if-amount-ge-TOO_MANY.true)

pub returns-else-amount-ge-TOO_MANY : goal.returns-else-amount-ge-TOO_MANY
returns-else-amount-ge-TOO_MANY c =
    let f = c.args.fraction.now in
    let unit = c.args.unit in
    let e = c.greatest_divisor-divisor.ensures in
    let value = amount_is unit f c.requires.fraction.1 c.requires.whole
    ∙ (λ p. unit / (f.1 / sym e p) * (f.0 / sym e p)) in
    ap Some (sym value) ∙ small_some (unit * f.0 / f.1) (2 ^ 62) (subst (λ x. x < 2 ^ 62)
    (sym value) c.if-amount-ge-TOO_MANY.false)
