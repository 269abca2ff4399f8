use Rattle.std.proofs.Common.{◌≡◌, ◌<◌, length, refl, subst, arith}
use Rattle.nomos_ir.proofs.PairedLaws.{paired-in_order}
use Rattle.nomos_ir.specs.ValueKind.{ValueHasKind}
use Rattle.nomos_typed.proofs.LeadingLemmas.{not-true}
use Rattle.nomos_typed.proofs.WalkLemmas.{SideBySide, beside-any, beside-there, order-long, paired-walk, side-more, side-order}
use Rattle.nomos_typed.proofs.fitting.values_fit.Goals as goal

pub returns-then-values-kinds : goal.returns-then-values-kinds
returns-then-values-kinds c =
    let values = c.args.values.now in
    let kinds = c.args.kinds.now in (
      λ yes. absurd cc,
      λ pairs.
          let long = order-long ValueHasKind values kinds
          (paired-walk ValueHasKind values kinds c.requires.values c.requires.kinds pairs) in
          absurd (omega (arith, long, c.if-values-kinds.true)),
    )

pub returns-then-not-entry_fits : goal.returns-then-not-entry_fits
returns-then-not-entry_fits c =
    let values = c.args.values.now in
    let kinds = c.args.kinds.now in (
      λ yes. absurd cc,
      λ pairs.
          absurd (not-true c.entry_fits.result c.if-not-entry_fits.true c.entry_fits.ensures
          (beside-there ValueHasKind values kinds c.loop-at.at c.index-values-at.result _ c.loop-at-test.true
          c.index-values-at.is c.requires.values c.requires.kinds pairs)),
    )

pub loop-at-preserved : goal.loop-at-preserved
loop-at-preserved c =
    let values = c.args.values.now in
    let kinds = c.args.kinds.now in
    let at = c.loop-at.at in
    let inside : at < length values = c.loop-at-test.true in
    record {
      within = omega (arith, inside);
      side =
          side-more ValueHasKind values kinds at c.loop-at.invariant.side
          (beside-any ValueHasKind values kinds at c.index-values-at.result _ inside c.index-values-at.is
          (omega (arith, inside, c.if-values-kinds.false)) (c.entry_fits.ensures.0 c.if-not-entry_fits.false));
    }

pub returns : goal.returns
returns c =
    let values = c.args.values.now in
    let kinds = c.args.kinds.now in
    let all : c.loop-at.at ≡ length values = omega (arith, c.loop-at.invariant.within, c.loop-at-test.false) in (
      λ yes.
          paired-in_order (side-order ValueHasKind values kinds c.if-values-kinds.false
          (subst (SideBySide ValueHasKind values kinds) all c.loop-at.invariant.side)),
      λ pairs. refl,
    )
