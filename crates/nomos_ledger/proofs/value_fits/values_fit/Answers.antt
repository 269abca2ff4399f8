use Rattle.std.proofs.Common.{◌≡◌, ◌∙◌, nat_eq, true, false, refl, sym, subst, arith}
use Rattle.std.proofs.lemmas.List.{drop_all, drop_more}
use Rattle.std.proofs.lemmas.Bool.{eqb-true}
use Rattle.nomos_legal.specs.LineStarts.{ValueFits}
use Rattle.nomos_ledger.proofs.FittingLemmas.{one_each-short, one_each-first, one_each-others, one_each-end}
use Rattle.nomos_ledger.proofs.value_fits.values_fit.Goals as goal

pub returns-in_default : goal.returns-in_default
returns-in_default c = (
  λ (yes : false ≡ true). cc,
  λ each.
      absurd (one_each-short ValueFits c.loop-par.left.now c.args.pars.now c.loop-par.par-index c.in_default.ensures
      (omega arith) (c.loop-par.invariant.0 each)),
)

pub returns-then-not-value_fits : goal.returns-then-not-value_fits
returns-then-not-value_fits c = (
  λ (yes : false ≡ true). cc,
  λ each.
      let yes =
      c.value_fits.ensures.1 (one_each-first ValueFits c.loop-par.left.now _ _ _ _ _ c.in-Some.ensures
      (drop_more c.args.pars.now c.loop-par.par-index _ (omega arith)) (c.loop-par.invariant.0 each)) in
      let other = c.if-not-value_fits.true in
      cc,
)

pub loop-par-preserved : goal.loop-par-preserved
loop-par-preserved c =
    let others =
    one_each-others ValueFits c.loop-par.left.now _ _ _ _ _ c.in-Some.ensures
    (drop_more c.args.pars.now c.loop-par.par-index _ (omega arith)) (c.value_fits.ensures.0 c.if-not-value_fits.false)
    in (
      λ each. others.0 (c.loop-par.invariant.0 each),
      λ rest. c.loop-par.invariant.1 (others.1 rest),
    )

pub returns : goal.returns
returns c =
    let end =
    one_each-end ValueFits c.loop-par.left.now _ (drop_all c.loop-par.par-index c.args.pars.now (omega arith)) in (
      λ yes. c.loop-par.invariant.1 (end.1 (omega (arith, c.len.ensures, eqb-true c.len.result 0 yes))),
      λ each.
          let none_left : c.len.result ≡ 0 = c.len.ensures ∙ end.0 (c.loop-par.invariant.0 each) in
          subst (λ n. nat_eq n 0 ≡ true) (sym none_left) refl,
    )
