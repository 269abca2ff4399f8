use Rattle.std.proofs.Common.{rules, ◌≡◌, pos, ◌<ℤ◌, ◌<◌, ◌^◌, FitsSigned, unsigned_abs, ap, sym, subst, ◌∙◌, arith}
use Rattle.std.specs.Int.{w128}
use Rattle.std.proofs.lemmas.Int.{ints, to_z-of_z, to_z_pos}
use Rattle.nomos_simplex.specs.Divisors.{common, divided_by}
use Rattle.nomos_simplex.proofs.DivisorLemmas.{lowest_is, divided_by_one, divisor_size}
use Rattle.nomos_simplex.proofs.divisors.lowest_terms.Goals as goal

pub returns-then-divisor-eq1 : goal.returns-then-divisor-eq1
returns-then-divisor-eq1 c =
    let line = c.args.line in
    let fits : FitsSigned w128 line.times = search rules in
    let back = to_z-of_z w128 line.times fits in
    let g = c.common_divisor-divisor.result in
    let is : g ≡ common (unsigned_abs line.times) line.coefs = cc in
    sym (lowest_is line g c.requires is ∙ ap (λ k. divided_by (pos k) line) c.if-divisor-eq1.true ∙ divided_by_one line)

pub overflow_cast-divisor : goal.overflow_cast-divisor
overflow_cast-divisor c =
    let line = c.args.line in
    let fits : FitsSigned w128 line.times = search rules in
    let back = to_z-of_z w128 line.times fits in
    let g = c.common_divisor-divisor.result in
    let is : g ≡ common (unsigned_abs line.times) line.coefs = cc in
    let size = divisor_size line g c.requires is in
    let over = c.requires in
    omega (arith, ints, size.1)

pub divided-requires : goal.divided-requires
divided-requires c =
    let line = c.args.line in
    let fits : FitsSigned w128 line.times = search rules in
    let back = to_z-of_z w128 line.times fits in
    let g = c.common_divisor-divisor.result in
    let is : g ≡ common (unsigned_abs line.times) line.coefs = cc in
    let size = divisor_size line g c.requires is in
    let over = c.requires in
    let small : g < 2 ^ 127 = omega (arith, ints, size.1) in
    subst (λ z. pos 0 <ℤ z) (sym (to_z_pos w128 g small)) (omega (arith, ints, size.0))

pub returns : goal.returns
returns c =
    let line = c.args.line in
    let fits : FitsSigned w128 line.times = search rules in
    let back = to_z-of_z w128 line.times fits in
    let g = c.common_divisor-divisor.result in
    let is : g ≡ common (unsigned_abs line.times) line.coefs = cc in
    let size = divisor_size line g c.requires is in
    let over = c.requires in
    let small : g < 2 ^ 127 = omega (arith, ints, size.1) in
    c.divided.ensures ∙ ap (λ z. divided_by z line) (to_z_pos w128 g small) ∙ sym (lowest_is line g c.requires is)
