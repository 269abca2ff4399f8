use Rattle.std.proofs.Common.{◌<◌, All, arith, sym, subst, pos, ◌*ℤ◌, ◌-ℤ◌, ◌≡◌}
use Rattle.std.proofs.lemmas.List.Elements.{All-weaker}
use Rattle.nomos_forms.specs.Bounds.{IsSmall, IsRow}
use Rattle.nomos_forms.specs.Refuting.{coef_in, least_in, weighted, IsOneOf}
use Rattle.nomos_forms.specs.declared.verdict.Weight.{Weight}
use Rattle.nomos_forms.proofs.SmallLaws.{small_coef}
use Rattle.nomos_simplex.specs.ShowsLeast.{goal_coef}
use Rattle.nomos_least.proofs.LeastLaws.{none_smaller}
use Rattle.nomos_least.proofs.showing.shows_least.Goals as goal

pub add_up-requires-clause-small : goal.add_up-requires-clause-small
add_up-requires-clause-small c =
    let rows = c.args.rows.now in
    let P : Weight → Type 0 = λ w. IsOneOf rows.stars rows.rows w.of × (0 < w.times) in
    λ star. All-weaker P (λ w. IsSmall (coef_in star w.of)) (λ w h. small_coef rows.stars rows.rows star w.of
    rows.each h.0) c.as_slice-weights.result.now (c.are_all_there.ensures.0 c.if-not-are_all_there.false)

pub returns-then-is_total-clause-none_smaller : goal.returns-then-is_total-clause-none_smaller
returns-then-is_total-clause-none_smaller c = λ e.
    let rows = c.args.rows.now in
    let goal_is = c.args.goal.now in
    let proof = c.args.proof.now in
    let unit = c.args.unit in
    let is = c.as_slice-weights.ensures in
    let width = sym c.requires.goal.width in
    let P : Weight → Type 0 = λ w. IsOneOf rows.stars rows.rows w.of × (0 < w.times) in
    let all = c.are_all_there.ensures.0 c.if-not-are_all_there.false in
    let star = c.add_up.ensures.0 e in
    none_smaller rows.rows goal_is unit proof (subst (λ n. All (IsRow n) rows.rows) width rows.each) (record {
      scale = omega arith;
      positive = subst (All (λ w. 0 < w.times)) is (All-weaker P (λ w. 0 < w.times) (λ w h. h.1)
          c.as_slice-weights.result.now all);
      of = subst (λ n. All (λ w. IsOneOf n rows.rows w.of) proof.weights) width (subst (All (λ w.
          IsOneOf rows.stars rows.rows w.of)) is (All-weaker P (λ w. IsOneOf rows.stars rows.rows w.of) (λ w h. h.0)
          c.as_slice-weights.result.now all));
      stars = λ s low high. subst (λ ws. weighted (coef_in s) ws ≡ pos proof.scale *ℤ goal_coef goal_is s) is
          (star s low (omega (arith, width)));
      total = subst (λ ws. pos unit *ℤ weighted least_in ws ≡ pos proof.scale *ℤ
          (pos proof.total -ℤ pos unit *ℤ goal_is.plus)) is (c.is_total.ensures.0 c.if-is_total.true);
    })
