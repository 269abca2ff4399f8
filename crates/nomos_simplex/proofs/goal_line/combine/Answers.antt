use Rattle.std.proofs.Common.{◌≤◌, ◌^◌, rules, pos, [], ◌∷◌, ◌++◌, ◌+ℤ◌, ◌*ℤ◌, unsigned_abs, get_or, FitsSigned, sym, subst, ◌∙◌, arith}
use Rattle.std.specs.Int.{w128}
use Rattle.std.proofs.lemmas.Int.{to_z-of_z}
use Rattle.nomos_simplex.proofs.GoalLemmas.{length-combined, get_or-combined, combined_more}
use Rattle.nomos_simplex.proofs.NumberLemmas.{number_back}
use Rattle.nomos_simplex.proofs.goal_line.combine.Goals as goal

pub returns-in-None : goal.returns-in-None
returns-in-None c =
    let p = c.args.factors.0 in
    let q = c.args.factors.1 in
    let of = c.args.of.now in
    let by = c.args.by.now in
    let i = c.loop-i.i in
    let in_of = c.loop-i-test.true in
    let fits_q : FitsSigned w128 q = search rules in
    let fits_by : FitsSigned w128 (get_or by i (pos 0)) = search rules in
    let back_p = number_back p c.requires.p in
    let back_of = number_back (get_or of i (pos 0)) (c.requires.of i (pos 0) in_of) in
    let value = (λ k. back_p k *ℤ back_of k +ℤ to_z-of_z w128 q fits_q k *ℤ to_z-of_z w128 (get_or by i (pos 0)) fits_by
    k)
    ∙ sym (get_or-combined p q of by i (pos 0) c.requires.width in_of) in (
      i,
      omega (arith, length-combined p q of by c.requires.width, in_of),
      subst (λ z. 2 ^ 125 ≤ unsigned_abs z) value c.in-None.ensures,
    )

pub loop-i-preserved : goal.loop-i-preserved
loop-i-preserved c =
    let p = c.args.factors.0 in
    let q = c.args.factors.1 in
    let of = c.args.of.now in
    let by = c.args.by.now in
    let i = c.loop-i.i in
    let in_of = c.loop-i-test.true in
    let fits_q : FitsSigned w128 q = search rules in
    let fits_by : FitsSigned w128 (get_or by i (pos 0)) = search rules in
    let fits_sum : FitsSigned w128 c.in-Some.sum = search rules in
    let back_p = number_back p c.requires.p in
    let back_of = number_back (get_or of i (pos 0)) (c.requires.of i (pos 0) in_of) in
    let value = to_z-of_z w128 c.in-Some.sum fits_sum ∙ c.in-Some.ensures
    ∙ (λ k. back_p k *ℤ back_of k +ℤ to_z-of_z w128 q fits_q k *ℤ to_z-of_z w128 (get_or by i (pos 0)) fits_by k) in
    c.in_ok-push-in-Some.ensures.items ∙ (λ k. c.loop-i.invariant k ++ value k ∷ [])
    ∙ sym (combined_more p q of by i in_of (omega (arith, c.requires.width, in_of)))
