use Rattle.std.proofs.Common.{◌≡◌, ◌<◌, length, refl, subst, arith}
use Rattle.nomos_ir.proofs.PairedLaws.{paired-in_order}
use Rattle.nomos_typed.specs.mirror.AtPlaces.{IsListHeld}
use Rattle.nomos_typed.proofs.LeadingLemmas.{not-true}
use Rattle.nomos_typed.proofs.WalkLemmas.{SideBySide, beside-any, beside-there, order-long, paired-walk, side-more, side-order}
use Rattle.nomos_typed.proofs.placing.lists_fit.Goals as goal

pub returns-then-lists-held : goal.returns-then-lists-held
returns-then-lists-held c =
    let lists = c.args.lists.now in
    let held = c.args.held.now in (
      λ yes. absurd cc,
      λ pairs.
          let long = order-long IsListHeld lists held
          (paired-walk IsListHeld lists held c.requires.lists c.requires.held pairs) in
          absurd (omega (arith, long, c.if-lists-held.true)),
    )

pub returns-then-not-list_fits : goal.returns-then-not-list_fits
returns-then-not-list_fits c =
    let lists = c.args.lists.now in
    let held = c.args.held.now in (
      λ yes. absurd cc,
      λ pairs.
          absurd (not-true c.list_fits.result c.if-not-list_fits.true c.list_fits.ensures
          (beside-there IsListHeld lists held c.loop-at.at c.index-lists-at.result _ c.loop-at-test.true
          c.index-lists-at.is c.requires.lists c.requires.held pairs)),
    )

pub loop-at-preserved : goal.loop-at-preserved
loop-at-preserved c =
    let lists = c.args.lists.now in
    let held = c.args.held.now in
    let at = c.loop-at.at in
    let inside : at < length lists = c.loop-at-test.true in
    record {
      within = omega (arith, inside);
      side =
          side-more IsListHeld lists held at c.loop-at.invariant.side
          (beside-any IsListHeld lists held at c.index-lists-at.result _ inside c.index-lists-at.is
          (omega (arith, inside, c.if-lists-held.false)) (c.list_fits.ensures.0 c.if-not-list_fits.false));
    }

pub returns : goal.returns
returns c =
    let lists = c.args.lists.now in
    let held = c.args.held.now in
    let all : c.loop-at.at ≡ length lists = omega (arith, c.loop-at.invariant.within, c.loop-at-test.false) in (
      λ yes.
          paired-in_order (side-order IsListHeld lists held c.if-lists-held.false
          (subst (SideBySide IsListHeld lists held) all c.loop-at.invariant.side)),
      λ pairs. refl,
    )
