use Rattle.std.proofs.Common.{List, subst, sym, ◌∙◌}
use Rattle.nomos_equality.specs.declared.hop.Hop.{Hop}
use Rattle.nomos_equality.specs.mirror.Walk.{WayTo}
use Rattle.nomos_equality.proofs.WalkLemmas.{IsWayFrom, way-starts, way-inside, way-onward, way-ends}
use Rattle.nomos_equality.proofs.continuation_walk.ContinuationWalk.path_to.Goals as goal

pub loop-from-init : goal.loop-from-init
loop-from-init c =
    rw c.new-path.ensures.items (way-starts c.args.self.now.visits.entries c.args.number c.arrival-from.result
    c.arrival-from.ensures)

pub arrival-from-requires-in-Some : goal.arrival-from-requires-in-Some
arrival-from-requires-in-Some c =
    way-inside c.args.self.now.visits.entries c.args.number c.in-Some.arrival c.loop-from.path.items c.requires.order
    (subst (λ o. IsWayFrom c.args.self.now.visits.entries c.args.number o c.loop-from.path.items) c.in-Some.is
    c.loop-from.invariant)

pub loop-from-preserved : goal.loop-from-preserved
loop-from-preserved c =
    let before = subst (λ o. IsWayFrom c.args.self.now.visits.entries c.args.number o c.loop-from.path.items)
    c.in-Some.is c.loop-from.invariant in
    subst (λ (l : List Hop). IsWayFrom c.args.self.now.visits.entries c.args.number c.arrival-from-in-Some.result l)
    (sym c.in_ok-push.ensures.items)
    (way-onward c.args.self.now.visits.entries c.args.number c.in-Some.arrival c.arrival-from-in-Some.result
    c.loop-from.path.items before c.arrival-from-in-Some.ensures)

pub returns : goal.returns
returns c =
    subst (λ (l : List Hop). WayTo c.args.self.now.visits.entries c.args.number l)
    (sym (c.of_vec.ensures ∙ c.reverse.ensures.items))
    (way-ends c.args.self.now.visits.entries c.args.number c.loop-from.path.items
    (subst (λ o. IsWayFrom c.args.self.now.visits.entries c.args.number o c.loop-from.path.items) c.in_default.is
    c.loop-from.invariant))
