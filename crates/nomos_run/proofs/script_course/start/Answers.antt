use Rattle.std.proofs.Common.{◌≤◌, refl, subst, sym}
use Rattle.nomos_legal.specs.Legal.{max_firings}
use Rattle.nomos_walk.specs.WalkState.{WalkState}
use Rattle.nomos_walk.specs.Walks.{HasBegunBatch, PassesStill, StartsAs}
use Rattle.nomos_run.proofs.CourseLemmas.{begun-under, come-few, come-room_for, come-standing, next-item, still-passed}
use Rattle.nomos_run.proofs.script_course.start.Goals as goal

pub start-requires-clause-stands : goal.start-requires-clause-stands
start-requires-clause-stands g c = come-standing c.requires.trail c.requires.between

pub start-requires-clause-room : goal.start-requires-clause-room
start-requires-clause-room g c =
    come-room_for c.requires.trail c.requires.between c.args.item.now
    (next-item c.args.trail.now c.args.item.now c.requires.item)

pub pass-requires : goal.pass-requires
pass-requires g c =
    let t = c.args.trail.now in
    let i = c.args.item.now in
    let passes : PassesStill t.way.walk c.args.ledger i c.in-Passed.passed c.start.new.self =
    subst (λ s. StartsAs t.way.walk c.args.ledger i s c.start.new.self) c.in-Passed.is c.in_ok-passed.ensures
    in
    still-passed t c.args.ledger i c.in-Passed.passed c.start.new.self c.requires.between
    (next-item t i c.requires.item) passes

pub watch-requires : goal.watch-requires
watch-requires g c =
    let t = c.args.trail.now in
    let u = c.in-UnderWay.under in
    let begun : HasBegunBatch t.way.walk c.args.ledger c.args.item.now u.outset.line u.outset.spent u.world
    c.start.new.self =
    subst (λ s. StartsAs t.way.walk c.args.ledger c.args.item.now s c.start.new.self) c.in-UnderWay.is
    c.in_ok-passed.ensures
    in
    subst (λ (w : WalkState). w.made ≤ max_firings) (sym begun.walk) (come-few c.requires.trail c.requires.between)

pub returns-in-UnderWay : goal.returns-in-UnderWay
returns-in-UnderWay g c =
    let t = c.args.trail.now in
    let u = c.in-UnderWay.under in
    let begun : HasBegunBatch t.way.walk c.args.ledger c.args.item.now u.outset.line u.outset.spent u.world
    c.start.new.self =
    subst (λ s. StartsAs t.way.walk c.args.ledger c.args.item.now s c.start.new.self) c.in-UnderWay.is
    c.in_ok-passed.ensures
    in
    record {
      kept = record { accepted = refl; orders = refl; items = refl };
      fired = refl;
      ok =
          begun-under t c.args.ledger c.args.item.now c.start.new.self c.requires.trail c.requires.between
          (next-item t c.args.item.now c.requires.item) u c.watch.result begun c.watch.ensures.same.1
          c.watch.ensures.same.0 c.watch.ensures.limit c.watch.ensures.sum
          (c.watch.ensures.watched t.accepted.now);
      err = tt;
    }
