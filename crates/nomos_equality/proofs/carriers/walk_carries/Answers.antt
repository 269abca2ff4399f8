use Rattle.std.proofs.Common.{◌≡◌, ◌∙◌, true, false, refl, sym}
use Rattle.nomos_equality.proofs.PathLaws.{there-below}
use Rattle.nomos_equality.proofs.SilentLemmas.{silent-more, silent-ends, carrier-found}
use Rattle.nomos_equality.proofs.WalkLemmas.{visit-node}
use Rattle.nomos_equality.proofs.carriers.walk_carries.Goals as goal

pub node-requires : goal.node-requires
node-requires c =
    let n = visit-node c.args.program.now c.args.start c.loop-at.walk.visits.entries c.loop-at.next c.in-Some.at
    c.in-Some.field-0-1 c.loop-at.invariant.reached (sym c.visit.ensures.there ∙ c.in-Some.is) in
    there-below c.args.program.now c.in-Some.at n.0 n.1

pub returns-then-is_carrier : goal.returns-then-is_carrier
returns-then-is_carrier c = (
  λ yes. carrier-found c.args.program.now c.args.start c.in-Some.at c.node.result.now c.loop-at.walk.visits.entries
      c.loop-at.next c.in-Some.field-0-1 c.loop-at.invariant.reached (sym c.visit.ensures.there ∙ c.in-Some.is)
      c.node.ensures (c.is_carrier.ensures.0 c.if-is_carrier.true),
  λ carries. refl,
)

pub step-requires-clause-in_range : goal.step-requires-clause-in_range
step-requires-clause-in_range c =
    let n = visit-node c.args.program.now c.args.start c.loop-at.walk.visits.entries c.loop-at.next c.in-Some.at
    c.in-Some.field-0-1 c.loop-at.invariant.reached (sym c.visit.ensures.there ∙ c.in-Some.is) in
    there-below c.args.program.now c.in-Some.at n.0 n.1

pub loop-at-preserved : goal.loop-at-preserved
loop-at-preserved c =
    silent-more c.args.program.now c.args.start c.in-Some.at c.node.result.now c.loop-at.walk.visits.entries
    c.step.new.self.visits.entries c.loop-at.next c.in-Some.field-0-1 c.loop-at.invariant
    (sym c.visit.ensures.there ∙ c.in-Some.is) c.node.ensures
    (λ carrier. differ (sym c.if-is_carrier.false ∙ c.is_carrier.ensures.1 carrier))
    c.in_ok-step.ensures.walks c.in_ok-step.ensures.follows
  where
    differ : false ≡ true → ⊥
    differ is = cc

pub returns : goal.returns
returns c = (
  λ yes. absurd cc,
  λ carries. absurd (silent-ends c.args.program.now c.args.start c.loop-at.walk.visits.entries c.loop-at.next
      c.requires.walkable.program c.loop-at.invariant (sym c.visit.ensures.there ∙ c.in_default.is) carries),
)
