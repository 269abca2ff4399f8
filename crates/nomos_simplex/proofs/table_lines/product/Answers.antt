use Rattle.std.proofs.Common.{◌≡◌, ℤ, ◌*ℤ◌, to_z, of_z, arith, ◌∙◌, sym, subst, FitsSigned}
use Rattle.std.specs.Int.{w64, w128}
use Rattle.nomos_forms.proofs.ProductLemmas.{wide_fits, wide_back}
use Rattle.nomos_simplex.specs.Sizes.{IsNumber}
use Rattle.nomos_simplex.proofs.NumberLemmas.{number_back, narrow_back, product_size}
use Rattle.nomos_simplex.proofs.table_lines.product.Goals as goal

-- a number, by way of 64 bits
from_back : (number from : ℤ) → IsNumber number → from ≡ to_z w64 (of_z w64 (to_z w128 (of_z w128 number))) →
    to_z w128 (of_z w128 from) ≡ number
from_back number from small is =
    (λ p. to_z w128 (of_z w128 ((is ∙ narrow_back number small) p))) ∙ number_back number small

pub overflow_mul-result : goal.overflow_mul-result
overflow_mul-result c =
    let a = from_back c.args.a c.from.result c.requires.a c.from.ensures in
    let b = from_back c.args.b c.from-2.result c.requires.b c.from-2.ensures in
    let size = product_size c.args.a c.args.b c.requires.a c.requires.b in
    subst (FitsSigned w128) (λ p. sym a p *ℤ sym b p) (wide_fits (c.args.a *ℤ c.args.b) (omega (arith, size)))

pub returns : goal.returns
returns c =
    let a = from_back c.args.a c.from.result c.requires.a c.from.ensures in
    let b = from_back c.args.b c.from-2.result c.requires.b c.from-2.ensures in
    let size = product_size c.args.a c.args.b c.requires.a c.requires.b in
    let value = (λ p. to_z w128 (of_z w128 (a p *ℤ b p))) ∙ wide_back (c.args.a *ℤ c.args.b) (omega (arith, size)) in
    record { value = value; size = rw value size }
