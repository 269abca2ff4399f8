use Rattle.std.proofs.Common.{◌≡◌, ◌≤◌, ◌^◌, ℤ, ◌+ℤ◌, ◌*ℤ◌, unsigned_abs, Option, Some, None, SomeIff, FitsSigned, to_z, of_z, sym, subst, ◌∙◌, arith, ⊎_elim}
use Rattle.std.specs.Int.{w128}
use Rattle.std.proofs.lemmas.Bool.{cases_lt}
use Rattle.std.proofs.lemmas.Int.{ints, to_z-of_z}
use Rattle.nomos_forms.proofs.ProductLemmas.{wide_fits, wide_back}
use Rattle.nomos_simplex.specs.mirror.Steps.{IsSumOrHuge}
use Rattle.nomos_simplex.proofs.NumberLemmas.{number_back}
use Rattle.nomos_simplex.proofs.goal_line.sum_of_products.Goals as goal

sum_or_huge : (o : Option ℤ) (w z : ℤ) → SomeIff o (FitsSigned w128 w) w → w ≡ z → IsSumOrHuge z o
sum_or_huge (Some v) w z h e = h.1 ∙ e
sum_or_huge None w z h e = ⊎_elim (λ less. absurd (h (wide_fits w less)))
    (λ more. subst (λ x. 2 ^ 125 ≤ unsigned_abs x) e (omega arith)) (cases_lt (unsigned_abs w) (2 ^ 127))

turn : (a b c d : ℤ) → a ≡ c → b ≡ d → a +ℤ b ≡ d +ℤ c
turn a b c d h i = omega (arith, ints)

pub returns : goal.returns
returns c =
    let q = to_z-of_z w128 c.args.q c.ranges.q in
    let x = to_z-of_z w128 c.args.c c.ranges.c in
    let second = c.in_ok-checked_mul.field-0 in
    let e = c.in_ok-checked_mul.ensures in
    let fits : FitsSigned w128 second = subst (FitsSigned w128) (sym e.1) e.0 in
    let two = to_z-of_z w128 second fits ∙ e.1 ∙ (λ i. q i *ℤ x i) in
    let p = number_back c.args.p c.requires.p in
    let a = number_back c.args.a c.requires.a in
    let first = c.product-first in
    let one = wide_back first.result (omega (arith, first.ensures.size)) ∙ first.ensures.value ∙ (λ i. p i *ℤ a i) in
    sum_or_huge c.checked_add.result (to_z w128 (of_z w128 second) +ℤ to_z w128 (of_z w128 first.result))
    (c.args.p *ℤ c.args.a +ℤ c.args.q *ℤ c.args.c) c.checked_add.ensures
    (turn (to_z w128 (of_z w128 second)) (to_z w128 (of_z w128 first.result)) (c.args.q *ℤ c.args.c)
    (c.args.p *ℤ c.args.a) two one)
