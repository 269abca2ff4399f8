use Rattle.std.proofs.Common.{List, subst, sym, ◌∙◌}
use Rattle.nomos_equality.specs.declared.hop.Hop.{Hop}
use Rattle.nomos_equality.specs.mirror.Search.{Trail}
use Rattle.nomos_equality.proofs.TrailLemmas.{IsTrailFrom, trail-inside, trail-onward, trail-ends}
use Rattle.nomos_equality.proofs.difference.DifferenceSearch.path_to.Goals as goal

pub visit-at-requires-in-Some : goal.visit-at-requires-in-Some
visit-at-requires-in-Some c =
    trail-inside c.args.self.now.visits.items c.args.number c.in-Some.origin c.loop-at.path.items c.requires.order
    (subst (λ o. IsTrailFrom c.args.self.now.visits.items c.args.number o c.loop-at.path.items) c.in-Some.is
    c.loop-at.invariant)

pub loop-at-preserved : goal.loop-at-preserved
loop-at-preserved c =
    let before = subst (λ o. IsTrailFrom c.args.self.now.visits.items c.args.number o c.loop-at.path.items) c.in-Some.is
    c.loop-at.invariant in
    subst (λ (l : List Hop). IsTrailFrom c.args.self.now.visits.items c.args.number c.visit-at-in-Some.result.from l)
    (sym c.in_ok-push.ensures.items)
    (trail-onward c.args.self.now.visits.items c.args.number c.in-Some.origin c.loop-at.path.items
    c.visit-at-in-Some.result before c.visit-at-in-Some.ensures)

pub returns : goal.returns
returns c =
    subst (λ (l : List Hop). Trail c.args.self.now.visits.items c.args.number l)
    (sym (c.of_vec.ensures ∙ c.reverse.ensures.items))
    (trail-ends c.args.self.now.visits.items c.args.number c.loop-at.path.items
    (subst (λ o. IsTrailFrom c.args.self.now.visits.items c.args.number o c.loop-at.path.items) c.in_default.is
    c.loop-at.invariant))
