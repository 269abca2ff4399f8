use Rattle.std.proofs.Common.{rules, pos, ◌+ℤ◌, ◌-ℤ◌, ◌*ℤ◌, unsigned_abs, ◌≤◌, ◌*◌, FitsSigned, to_z, of_z, sym, subst, ◌∙◌, arith}
use Rattle.std.specs.Int.{w128}
use Rattle.std.proofs.lemmas.Int.{to_z-of_z}
use Rattle.std.proofs.lemmas.Bool.{false≢true}
use Rattle.nomos_forms.proofs.ProductLemmas.{wide_fits, wide_back}
use Rattle.nomos_least.proofs.ProductLemmas.{one_product, same_from_parts, parts_from_same, sum_size}
use Rattle.nomos_least.proofs.products.is_same_product.Goals as goal

pub overflow_add-high : goal.overflow_add-high
overflow_add-high c =
    let high = c.difference-high in
    let low = c.difference in
    let carry = c.split-carry.result.0 in
    let back_low = wide_back low.result (omega (arith, low.ensures.size)) in
    let less = subst (λ z. unsigned_abs carry * 4294967296 ≤ unsigned_abs z) back_low c.split-carry.ensures.high in
    let size = sum_size high.result carry low.result high.ensures.size low.ensures.size less in
    let back_high = wide_back high.result (omega (arith, high.ensures.size)) in
    let back_carry = wide_back carry (omega (arith, less, low.ensures.size)) in
    subst (FitsSigned w128) (λ p. sym back_high p +ℤ sym back_carry p) (wide_fits (high.result +ℤ carry) size)

pub returns-then-is_zero : goal.returns-then-is_zero
returns-then-is_zero c =
    let a = pos c.args.a in
    let b = pos c.args.b in
    let x = c.split-x_high in
    let y = c.split-y_high in
    let high = c.difference-high in
    let low = c.difference in
    let carry = c.split-carry in
    let back_low = wide_back low.result (omega (arith, low.ensures.size)) in
    let less = subst (λ z. unsigned_abs carry.result.0 * 4294967296 ≤ unsigned_abs z) back_low carry.ensures.high in
    let size = sum_size high.result carry.result.0 low.result high.ensures.size low.ensures.size less in
    let back_high = wide_back high.result (omega (arith, high.ensures.size)) in
    let back_carry = wide_back carry.result.0 (omega (arith, less, low.ensures.size)) in
    let sum = (λ p. to_z w128 (of_z w128 (back_high p +ℤ back_carry p)))
    ∙ wide_back (high.result +ℤ carry.result.0) size in
    let rest = sym (wide_back carry.result.1 (omega (arith, carry.ensures.low)))
    ∙ c.is_zero.ensures.0 c.if-is_zero.true in
    let fits_xh : FitsSigned w128 x.result.0 = search rules in
    let fits_yh : FitsSigned w128 y.result.0 = search rules in
    let fits_xl : FitsSigned w128 x.result.1 = search rules in
    let fits_yl : FitsSigned w128 y.result.1 = search rules in
    let highs = high.ensures.value ∙ (λ p. a *ℤ to_z-of_z w128 x.result.0 fits_xh p -ℤ b *ℤ
    to_z-of_z w128 y.result.0 fits_yh p) in
    let lows = low.ensures.value ∙ (λ p. a *ℤ to_z-of_z w128 x.result.1 fits_xl p -ℤ b *ℤ
    to_z-of_z w128 y.result.1 fits_yl p) in
    let ax = one_product a x.result.0 (pos 4294967296) x.result.1 c.args.x
    (x.ensures.value ∙ wide_back c.args.x (omega (arith, c.requires.x))) in
    let other = one_product b y.result.0 (pos 4294967296) y.result.1 c.args.y
    (y.ensures.value ∙ wide_back c.args.y (omega (arith, c.requires.y))) in (
      λ e. same_from_parts (a *ℤ c.args.x) (b *ℤ c.args.y) (a *ℤ x.result.0) (a *ℤ x.result.1) (b *ℤ y.result.0)
          (b *ℤ y.result.1) high.result low.result carry.result.0 carry.result.1 ax other highs lows
          (carry.ensures.value ∙ back_low) rest (sym sum ∙ c.is_zero-then-is_zero.ensures.0 e),
      λ e. c.is_zero-then-is_zero.ensures.1 (sum
          ∙ (parts_from_same (a *ℤ c.args.x) (b *ℤ c.args.y) (a *ℤ x.result.0) (a *ℤ x.result.1) (b *ℤ y.result.0)
          (b *ℤ y.result.1) high.result low.result carry.result.0 carry.result.1 ax other highs lows
          (carry.ensures.value ∙ back_low) carry.ensures.low e).1),
    )

pub returns-else-is_zero : goal.returns-else-is_zero
returns-else-is_zero c =
    let a = pos c.args.a in
    let b = pos c.args.b in
    let x = c.split-x_high in
    let y = c.split-y_high in
    let high = c.difference-high in
    let low = c.difference in
    let carry = c.split-carry in
    let back_low = wide_back low.result (omega (arith, low.ensures.size)) in
    let back_rest = wide_back carry.result.1 (omega (arith, carry.ensures.low)) in
    let fits_xh : FitsSigned w128 x.result.0 = search rules in
    let fits_yh : FitsSigned w128 y.result.0 = search rules in
    let fits_xl : FitsSigned w128 x.result.1 = search rules in
    let fits_yl : FitsSigned w128 y.result.1 = search rules in
    let highs = high.ensures.value ∙ (λ p. a *ℤ to_z-of_z w128 x.result.0 fits_xh p -ℤ b *ℤ
    to_z-of_z w128 y.result.0 fits_yh p) in
    let lows = low.ensures.value ∙ (λ p. a *ℤ to_z-of_z w128 x.result.1 fits_xl p -ℤ b *ℤ
    to_z-of_z w128 y.result.1 fits_yl p) in
    let ax = one_product a x.result.0 (pos 4294967296) x.result.1 c.args.x
    (x.ensures.value ∙ wide_back c.args.x (omega (arith, c.requires.x))) in
    let other = one_product b y.result.0 (pos 4294967296) y.result.1 c.args.y
    (y.ensures.value ∙ wide_back c.args.y (omega (arith, c.requires.y))) in (
      λ e. absurd (false≢true (sym c.if-is_zero.false ∙ e)),
      λ e. c.is_zero.ensures.1 (back_rest
          ∙ (parts_from_same (a *ℤ c.args.x) (b *ℤ c.args.y) (a *ℤ x.result.0) (a *ℤ x.result.1) (b *ℤ y.result.0)
          (b *ℤ y.result.1) high.result low.result carry.result.0 carry.result.1 ax other highs lows
          (carry.ensures.value ∙ back_low) carry.ensures.low e).0),
    )
