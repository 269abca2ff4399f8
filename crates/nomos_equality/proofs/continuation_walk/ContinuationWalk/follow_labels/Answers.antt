use Rattle.std.proofs.Common.{◌≡◌, ◌<◌, ℕ, List, get_or, length, subst, arith, inl, inr}
use Rattle.std.proofs.lemmas.Bool.{cases_lt}
use Rattle.std.proofs.lemmas.List.{get_or_default}
use Rattle.nomos_ir.specs.declared.type_node.Branch.{Branch}
use Rattle.nomos_equality.specs.declared.hop.Hop.TheVariants as hop
use Rattle.nomos_equality.specs.mirror.Walk.{FollowsHop, stays}
use Rattle.nomos_equality.proofs.WalkLemmas.{walks-get, walks-through, follows-walks, labels-known}
use Rattle.nomos_equality.proofs.continuation_walk.ContinuationWalk.follow_labels.Goals as goal

pub loop-branch-init : goal.loop-branch-init
loop-branch-init c = record { walks = stays; followed = λ k d inside. absurd (omega arith) }

pub follow_branch-requires-clause-there : goal.follow_branch-requires-clause-there
follow_branch-requires-clause-there c = (
  c.requires.there.0,
  walks-get c.args.program.now c.args.self.now.visits.entries c.loop-branch.self.visits.entries c.args.number
      (c.args.at.0, c.requires.there.0) c.loop-branch.invariant.walks c.requires.there.1,
)

pub loop-branch-preserved : goal.loop-branch-preserved
loop-branch-preserved c =
    record {
      walks = walks-through c.args.program.now _ _ _ c.loop-branch.invariant.walks c.in_ok-follow_branch.ensures.walks;
      followed = λ k d inside.
          elim (cases_lt k c.loop-branch.branch-index) [
            | inl less ↦
                follows-walks c.args.program.now c.args.at.0
                (hop.Label (get_or c.choices_of-branches.result.now k d).label) c.loop-branch.self.visits.entries
                c.follow_branch.new.self.visits.entries c.in_ok-follow_branch.ensures.walks
                (c.loop-branch.invariant.followed k d less)
            | inr more ↦
                let at : c.loop-branch.branch-index ≡ k = omega arith in
                let one = get_or_default c.choices_of-branches.result.now c.loop-branch.branch-index
                (record { label = record { 0 = 0 }; goes = record { 0 = 0 } }) d c.loop-branch-test.true in
                subst (λ (n : ℕ). FollowsHop c.args.program.now c.args.at.0
                (hop.Label (get_or c.choices_of-branches.result.now n d).label)
                c.follow_branch.new.self.visits.entries) at
                (subst (λ (e : Branch). FollowsHop c.args.program.now c.args.at.0 (hop.Label e.label)
                c.follow_branch.new.self.visits.entries) one c.in_ok-follow_branch.ensures.follows)
          ];
    }

pub returns-clause-follows : goal.returns-clause-follows
returns-clause-follows c =
    labels-known c.args.program.now c.args.at.0 c.node.result.now c.loop-branch.self.visits.entries c.node.ensures
    (subst (λ (bs : List Branch). (k : ℕ) (d : Branch) → k < length bs
    → FollowsHop c.args.program.now c.args.at.0 (hop.Label (get_or bs k d).label) c.loop-branch.self.visits.entries)
    c.choices_of-branches.ensures (λ k d inside.
    c.loop-branch.invariant.followed k d (omega (arith, inside, c.loop-branch-test.false))))
