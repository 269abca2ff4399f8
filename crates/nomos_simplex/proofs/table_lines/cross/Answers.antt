use Rattle.std.proofs.Common.{ℤ, ◌-ℤ◌, ◌*ℤ◌, unsigned_abs, ◌<◌, ◌^◌, to_z, of_z, ◌∙◌, arith}
use Rattle.std.specs.Int.{w128}
use Rattle.std.proofs.lemmas.Int.{ints}
use Rattle.nomos_forms.proofs.ProductLemmas.{wide_back}
use Rattle.nomos_simplex.proofs.NumberLemmas.{number_back}
use Rattle.nomos_simplex.proofs.table_lines.cross.Goals as goal

difference_size : (x y : ℤ) → unsigned_abs x < 2 ^ 124 → unsigned_abs y < 2 ^ 124 → unsigned_abs (x -ℤ y) < 2 ^ 127
difference_size x y h i = omega (arith, ints)

pub returns : goal.returns
returns c =
    let x = c.product-plus in
    let y = c.product-minus in
    let back_x = wide_back x.result (omega (arith, x.ensures.size)) in
    let back_y = wide_back y.result (omega (arith, y.ensures.size)) in
    let value_x = x.ensures.value ∙ (λ p. number_back c.args.p c.requires.p p *ℤ number_back c.args.a c.requires.a p) in
    let value_y = y.ensures.value ∙ (λ p. number_back c.args.g c.requires.g p *ℤ number_back c.args.c c.requires.c p) in
    (λ p. to_z w128 (of_z w128 (back_x p -ℤ back_y p))) ∙ wide_back (x.result -ℤ y.result) (difference_size x.result
    y.result x.ensures.size y.ensures.size)
    ∙ (λ p. value_x p -ℤ value_y p)
