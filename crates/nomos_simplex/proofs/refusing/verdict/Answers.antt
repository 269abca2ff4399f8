use Rattle.std.proofs.Common.{ℕ, All, sym, subst, ◌∙◌}
use Rattle.nomos_simplex.specs.Sizes.{IsVariable}
use Rattle.nomos_simplex.proofs.WeightLemmas.{with_weight_all, weights_all}
use Rattle.nomos_simplex.proofs.refusing.verdict.Goals as goal

pub resolved-requires : goal.resolved-requires
resolved-requires c =
    let Q = IsVariable c.args.rows.now in
    let P : ℕ × ℕ → Type 0 = λ w. Q w.0 in
    let nonbasic = subst (All Q) (sym c.as_slice-nonbasic.ensures) c.requires.nonbasic in
    let below = subst (All P) (sym c.in_ok-weights.ensures) (weights_all Q c.as_slice-nonbasic.result.now
    c.as_slice.result.now nonbasic) in
    subst (All P) (sym (c.deref.ensures.value ∙ c.in_ok-add_weight.ensures)) (with_weight_all P
    (c.args.line.now.basic, c.times_of.result) c.in_ok-weights.weights.items c.requires.basic below)
