use Rattle.std.proofs.Common.{◌≡◌, ◌+◌, arith, rules, refl, ap, sym, subst, ◌∙◌, ⊎_elim, pos, FitsSigned, to_z, of_z}
use Rattle.std.specs.Int.{w128}
use Rattle.std.proofs.lemmas.Bool.{false≢true, cases_lt}
use Rattle.std.proofs.lemmas.Int.{to_z-of_z}
use Rattle.nomos_forms.specs.Refuting.{coef_in, weighted}
use Rattle.nomos_forms.proofs.refuting.leaves_no_star.Goals as goal

pub returns-then-sum_for-ne0 : goal.returns-then-sum_for-ne0
returns-then-sum_for-ne0 c = (
  λ e. absurd (false≢true e),
  λ none. absurd (c.if-sum_for-ne0.true (ap (of_z w128) (c.sum_for.ensures
      ∙ none (c.loop-before.before + 1) (omega arith) (omega arith)))),
)

-- the stars before, and this one
pub loop-before-preserved : goal.loop-before-preserved
loop-before-preserved c = λ star low high.
    let fits : FitsSigned w128 c.sum_for.result = search rules in
    let zero : c.sum_for.result ≡ pos 0 = sym (to_z-of_z w128 c.sum_for.result fits)
    ∙ ap (to_z w128) c.if-sum_for-ne0.false in
    ⊎_elim
    (λ lt. c.loop-before.invariant star low (omega arith))
    (λ le. let same : c.loop-before.before + 1 ≡ star = omega arith in
    subst (λ s. weighted (coef_in s) c.args.weights.now ≡ pos 0) same (sym c.sum_for.ensures ∙ zero))
    (cases_lt star (c.loop-before.before + 1))

pub returns : goal.returns
returns c = (λ _ star low high. c.loop-before.invariant star low (omega arith), λ _. refl)
