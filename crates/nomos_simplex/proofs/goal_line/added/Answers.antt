use Rattle.std.proofs.Common.{◌≡◌, rules, pos, ◌*ℤ◌, ◌<ℤ◌, FitsSigned, to_z, of_z, None, Some, Bool, sym, subst, ◌∙◌, ap, arith, cond}
use Rattle.std.specs.Int.{w64, w128}
use Rattle.std.proofs.lemmas.Int.{to_z-of_z}
use Rattle.nomos_forms.proofs.ProductLemmas.{wide_back}
use Rattle.nomos_simplex.specs.Divisors.{in_lowest_terms}
use Rattle.nomos_simplex.specs.GoalLine.{times_to_common, combined, with_added}
use Rattle.nomos_simplex.specs.mirror.Steps.{AreSums}
use Rattle.nomos_simplex.proofs.GoalLemmas.{huge-is_large, added_over}
use Rattle.nomos_simplex.proofs.NumberLemmas.{number_back}
use Rattle.nomos_simplex.proofs.goal_line.added.Goals as goal

pub returns-in_default : goal.returns-in_default
returns-in_default c =
    let line = c.args.line.now in
    let star = c.args.star.now in
    let n = c.args.count in
    let times = number_back line.times c.requires.line.times in
    let star_times = number_back star.times c.requires.star.times in
    let p = c.times_to_common-p in
    let q = c.times_to_common-q in
    let first = number_back p.result p.ensures.small ∙ p.ensures.value
    ∙ (λ i. times_to_common (times i) (star_times i)) in
    let second = number_back q.result q.ensures.small ∙ q.ensures.value
    ∙ (λ i. times_to_common (star_times i) (times i)) in
    let fits : FitsSigned w128 c.scaled.result = search rules in
    let scaled = to_z-of_z w128 c.scaled.result fits ∙ c.scaled.ensures
    ∙ (λ i. second i *ℤ to_z-of_z w64 n c.ranges.count i) in
    let zs = combined (to_z w128 (of_z w128 p.result)) (to_z w128 (of_z w128 c.scaled.result)) c.as_slice.result.now
    c.as_slice-2.result.now in
    let sums : zs ≡ (with_added n star line).coefs =
    λ i. combined (first i) (scaled i) (c.as_slice.ensures i) (c.as_slice-2.ensures i) in
    let huge = subst (λ ys. AreSums ys None) sums (subst (AreSums zs) c.in_default.is c.in_ok-coefs.ensures) in
    let made = in_lowest_terms (with_added n star line) in
    let large = huge-is_large n star line huge.0 (sym c.requires.star.width) c.requires.line.positive
    c.requires.star.positive c.requires.star.times c.requires.lowest_line huge.1 huge.2 in
    ap (λ (b : Bool). cond b None (Some made)) (sym large)

pub lowest_terms-made-requires : goal.lowest_terms-made-requires
lowest_terms-made-requires c =
    let line = c.args.line.now in
    let star = c.args.star.now in
    let times = number_back line.times c.requires.line.times in
    let star_times = number_back star.times c.requires.star.times in
    let p = c.times_to_common-p in
    let first = number_back p.result p.ensures.small ∙ p.ensures.value
    ∙ (λ i. times_to_common (times i) (star_times i)) in
    let whole = wide_back c.product.result (omega (arith, c.product.ensures.size)) ∙ c.product.ensures.value
    ∙ (λ i. first i *ℤ times i) in
    subst (λ z. pos 0 <ℤ z) (sym whole)
    (added_over c.args.count star line c.requires.line.positive c.requires.star.positive)
