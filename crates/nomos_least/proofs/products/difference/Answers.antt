use Rattle.std.proofs.Common.{pos, ◌-ℤ◌, ◌*ℤ◌, to_z, of_z, sym, subst, ◌∙◌, arith, FitsSigned}
use Rattle.std.specs.Int.{w128}
use Rattle.nomos_forms.proofs.ProductLemmas.{wide_fits, wide_back}
use Rattle.nomos_least.proofs.ProductLemmas.{first_size, second_size, difference_size, back_product}
use Rattle.nomos_least.proofs.products.difference.Goals as goal

pub overflow_sub-result : goal.overflow_sub-result
overflow_sub-result c =
    let a = c.args.a in
    let b = c.args.b in
    let one = first_size a c.args.x c.ranges.a.fits c.requires.x in
    let two = second_size b c.args.y c.requires.b c.requires.y in
    let x = back_product c.from.result c.args.x (pos a) c.from.ensures (omega arith) (omega arith) (omega arith) in
    let y = back_product c.from-2.result c.args.y (pos b) c.from-2.ensures (omega arith) (omega arith) (omega arith) in
    let size = difference_size (pos a *ℤ c.args.x) (pos b *ℤ c.args.y) one two in
    subst (FitsSigned w128) (λ p. sym x p -ℤ sym y p)
    (wide_fits (pos a *ℤ c.args.x -ℤ pos b *ℤ c.args.y) (omega arith))

pub returns : goal.returns
returns c =
    let a = c.args.a in
    let b = c.args.b in
    let one = first_size a c.args.x c.ranges.a.fits c.requires.x in
    let two = second_size b c.args.y c.requires.b c.requires.y in
    let x = back_product c.from.result c.args.x (pos a) c.from.ensures (omega arith) (omega arith) (omega arith) in
    let y = back_product c.from-2.result c.args.y (pos b) c.from-2.ensures (omega arith) (omega arith) (omega arith) in
    let size = difference_size (pos a *ℤ c.args.x) (pos b *ℤ c.args.y) one two in
    let value = (λ p. to_z w128 (of_z w128 (x p -ℤ y p)))
    ∙ wide_back (pos a *ℤ c.args.x -ℤ pos b *ℤ c.args.y) (omega arith) in
    record { value = value; size = rw value size }
