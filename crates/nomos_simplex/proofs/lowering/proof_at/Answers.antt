use Rattle.std.proofs.Common.{◌<◌, ◌^◌, ℕ, neg_ℤ, All, map, get_or, ap, sym, subst, ◌∙◌}
use Rattle.std.proofs.lemmas.List.Elements.{All-map}
use Rattle.nomos_simplex.specs.Sizes.{IsNumber, IsVariable}
use Rattle.nomos_simplex.proofs.OppositeLemmas.{abs_neg}
use Rattle.nomos_simplex.proofs.WeightLemmas.{weights_all}
use Rattle.nomos_simplex.proofs.lowering.proof_at.Goals as goal

pub weights_of-requires-clause-coefs : goal.weights_of-requires-clause-coefs
weights_of-requires-clause-coefs c =
    let cs = c.args.aimed.now.line.coefs in
    let is = c.deref.ensures.value ∙ c.in_ok-negated.ensures ∙ ap (map neg_ℤ) c.as_slice.ensures in
    subst (All IsNumber) (sym is) (All-map IsNumber neg_ℤ cs
    (λ k d l. subst (λ n. n < 2 ^ 62) (sym (abs_neg (get_or cs k d))) (c.requires.line.coefs k d l)))

pub resolved-requires : goal.resolved-requires
resolved-requires c =
    let Q = IsVariable c.args.rows.now in
    let P : ℕ × ℕ → Type 0 = λ w. Q w.0 in
    let nonbasic = subst (All Q) (sym c.as_slice-nonbasic.ensures) c.requires.nonbasic in
    subst (All P) (sym (c.deref-2.ensures.value ∙ c.in_ok-weights.ensures))
    (weights_all Q c.as_slice-nonbasic.result.now c.deref.result.now nonbasic)
