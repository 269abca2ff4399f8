use Rattle.std.proofs.Common.{◌≡◌, ◌<◌, All, arith, sym, subst, pos}
use Rattle.std.proofs.lemmas.List.Elements.{All-weaker}
use Rattle.nomos_forms.specs.Bounds.{IsSmall}
use Rattle.nomos_forms.specs.Refuting.{coef_in, least_in, weighted, IsOneOf, LeavesNoStar}
use Rattle.nomos_forms.specs.declared.verdict.Weight.{Weight}
use Rattle.nomos_forms.proofs.CertificateLaws.{none_meet}
use Rattle.nomos_forms.proofs.SmallLaws.{small_coef}
use Rattle.nomos_forms.proofs.refuting.refutes.Goals as goal

pub add_up-requires-clause-coefs : goal.add_up-requires-clause-coefs
add_up-requires-clause-coefs c =
    let rows = c.args.rows.now in
    let P : Weight → Type 0 = λ w. IsOneOf rows.stars rows.rows w.of × (0 < w.times) in
    λ star. All-weaker P (λ w. IsSmall (coef_in star w.of)) (λ w h. small_coef rows.stars rows.rows star w.of
    rows.each h.0) c.as_slice-weights.result.now (c.are_all_there.ensures.0 c.if-not-are_all_there.false)

pub returns-clause-exact : goal.returns-clause-exact
returns-clause-exact c =
    let rows = c.args.rows.now in
    let verdict = c.args.verdict.now in
    let is = c.as_slice-weights.ensures in
    let P : Weight → Type 0 = λ w. IsOneOf rows.stars rows.rows w.of × (0 < w.times) in
    let all = c.are_all_there.ensures.0 c.if-not-are_all_there.false in (
      λ e. record {
        of = subst (All (λ w. IsOneOf rows.stars rows.rows w.of)) is (All-weaker P (λ w. IsOneOf rows.stars rows.rows
            w.of) (λ w h. h.0) c.as_slice-weights.result.now all);
        positive = subst (All (λ w. 0 < w.times)) is (All-weaker P (λ w. 0 < w.times) (λ w h. h.1)
            c.as_slice-weights.result.now all);
        no_star = subst (LeavesNoStar rows.stars) is (c.add_up.ensures.0 e).0;
        gives = subst (λ ws. weighted least_in ws ≡ pos verdict.gives) is (c.add_up.ensures.0 e).1;
        over_zero = omega arith;
      },
      λ r. c.add_up.ensures.1 (
        subst (LeavesNoStar rows.stars) (sym is) r.no_star,
        subst (λ ws. weighted least_in ws ≡
            pos verdict.gives) (sym is) r.gives,
      ),
    )

pub returns-clause-none_meet : goal.returns-clause-none_meet
returns-clause-none_meet c =
    let rows = c.args.rows.now in
    λ e. none_meet rows.stars rows.rows c.args.verdict.now rows.each ((returns-clause-exact c).0 e)
