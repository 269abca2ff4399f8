use Rattle.std.proofs.Common.{◌≡◌, ◌<◌, ℕ, List, get_or, length, subst, arith, inl, inr}
use Rattle.std.proofs.lemmas.Bool.{cases_lt}
use Rattle.std.proofs.lemmas.List.{get_or_default}
use Rattle.nomos_ir.specs.declared.type_node.Branch.{Branch}
use Rattle.nomos_equality.specs.mirror.Search.{Classed, Follows, stays}
use Rattle.nomos_equality.specs.declared.hop.Hop.TheVariants as hop
use Rattle.nomos_equality.proofs.SearchLemmas.{goes-classed, goes-get, goes-through}
use Rattle.nomos_equality.proofs.VisitLemmas.{follows-wider, labels-known}
use Rattle.nomos_equality.proofs.difference.DifferenceSearch.follow_labels.Goals as goal

pub loop-branch-init : goal.loop-branch-init
loop-branch-init c = record { goes = stays; followed = λ k d inside. absurd (omega arith) }

pub follow-requires-clause-there : goal.follow-requires-clause-there
follow-requires-clause-there c =
    goes-get c.args.program.now c.args.self.now c.loop-branch.self c.args.number c.args.visit
    c.loop-branch.invariant.goes c.requires.there

pub loop-branch-preserved : goal.loop-branch-preserved
loop-branch-preserved c =
    record {
      goes = goes-through c.args.program.now _ _ _ c.loop-branch.invariant.goes c.in_ok-follow.ensures.goes;
      followed = λ k d inside.
          elim (cases_lt k c.loop-branch.branch-index) [
            | inl less ↦
                follows-wider c.args.program.now c.args.visit
                (hop.Label (get_or c.choices_of-branches.result.now k d).label) (Classed c.loop-branch.self)
                (Classed c.follow.new.self)
                (goes-classed c.args.program.now c.loop-branch.self c.follow.new.self c.in_ok-follow.ensures.goes)
                (c.loop-branch.invariant.followed k d less)
            | inr more ↦
                let at : c.loop-branch.branch-index ≡ k = omega arith in
                let one = get_or_default c.choices_of-branches.result.now c.loop-branch.branch-index
                (record { label = record { 0 = 0 }; goes = record { 0 = 0 } }) d c.loop-branch-test.true in
                subst (λ (n : ℕ). Follows c.args.program.now c.args.visit
                (hop.Label (get_or c.choices_of-branches.result.now n d).label) (Classed c.follow.new.self)) at
                (subst (λ (e : Branch). Follows c.args.program.now c.args.visit (hop.Label e.label)
                (Classed c.follow.new.self)) one c.in_ok-follow.ensures.follows)
          ];
    }

pub returns-clause-follows : goal.returns-clause-follows
returns-clause-follows c =
    labels-known c.args.program.now c.args.visit c.node.result.now c.requires.nodes.right (Classed c.loop-branch.self)
    (record { left_there = c.node.ensures; right_there = c.requires.nodes.at.right_there })
    (subst (λ (bs : List Branch). (k : ℕ) (d : Branch) → k < length bs
    → Follows c.args.program.now c.args.visit (hop.Label (get_or bs k d).label) (Classed c.loop-branch.self))
    c.choices_of-branches.ensures (λ k d inside.
    c.loop-branch.invariant.followed k d (omega (arith, inside, c.loop-branch-test.false))))
