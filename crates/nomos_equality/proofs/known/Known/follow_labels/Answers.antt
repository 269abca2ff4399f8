use Rattle.std.proofs.Common.{◌≡◌, ◌<◌, ℕ, List, get_or, length, refl, subst, ◌∙◌, arith, inl, inr}
use Rattle.std.proofs.lemmas.Bool.{cases_lt}
use Rattle.std.proofs.lemmas.List.{get_or_default}
use Rattle.nomos_ir.specs.declared.type_node.Branch.{Branch}
use Rattle.nomos_equality.specs.mirror.Search.{Follows}
use Rattle.nomos_equality.specs.mirror.Known.{Among, visit_at}
use Rattle.nomos_equality.specs.declared.hop.Hop.TheVariants as hop
use Rattle.nomos_equality.proofs.KnownLemmas.{spreads-nothing, spreads-through, follows-spread}
use Rattle.nomos_equality.proofs.VisitLemmas.{labels-known}
use Rattle.nomos_equality.proofs.known.Known.follow_labels.Goals as goal

pub loop-branch-init : goal.loop-branch-init
loop-branch-init c =
    record {
      spreads = spreads-nothing c.args.program.now c.args.left c.args.right c.args.self.now;
      amounts = refl;
      followed = λ k d inside. absurd (omega arith);
    }

pub returns-in_err-follow-clause-amounts : goal.returns-in_err-follow-clause-amounts
returns-in_err-follow-clause-amounts c = c.follow.ensures.amounts ∙ c.loop-branch.invariant.amounts

pub loop-branch-preserved : goal.loop-branch-preserved
loop-branch-preserved c =
    record {
      spreads = spreads-through c.args.program.now c.args.left c.args.right c.args.self.now c.loop-branch.self
          c.follow.new.self c.loop-branch.invariant.spreads c.in_ok-follow.ensures.spreads;
      amounts = c.follow.ensures.amounts ∙ c.loop-branch.invariant.amounts;
      followed = λ k d inside.
          elim (cases_lt k c.loop-branch.branch-index) [
            | inl less ↦
                follows-spread c.args.program.now c.args.left c.args.right c.loop-branch.self c.follow.new.self
                c.args.left c.args.right (hop.Label (get_or c.choices_of-branches.result.now k d).label)
                c.in_ok-follow.ensures.spreads (c.loop-branch.invariant.followed k d less)
            | inr more ↦
                let at : c.loop-branch.branch-index ≡ k = omega arith in
                let one = get_or_default c.choices_of-branches.result.now c.loop-branch.branch-index
                (record { label = record { 0 = 0 }; goes = record { 0 = 0 } }) d c.loop-branch-test.true in
                subst (λ (n : ℕ). Follows c.args.program.now (visit_at c.args.left c.args.right)
                (hop.Label (get_or c.choices_of-branches.result.now n d).label) (Among c.follow.new.self.pairs)) at
                (subst (λ (e : Branch). Follows c.args.program.now (visit_at c.args.left c.args.right)
                (hop.Label e.label) (Among c.follow.new.self.pairs)) one c.in_ok-follow.ensures.follows)
          ];
    }

pub returns-clause-follows : goal.returns-clause-follows
returns-clause-follows c =
    labels-known c.args.program.now (visit_at c.args.left c.args.right) c.node.result.now c.requires.nodes.right
    (Among c.loop-branch.self.pairs)
    (record { left_there = c.node.ensures; right_there = c.requires.nodes.at.right_there })
    (subst (λ (bs : List Branch). (k : ℕ) (d : Branch) → k < length bs
    → Follows c.args.program.now (visit_at c.args.left c.args.right) (hop.Label (get_or bs k d).label)
    (Among c.loop-branch.self.pairs))
    c.choices_of-branches.ensures (λ k d inside.
    c.loop-branch.invariant.followed k d (omega (arith, inside, c.loop-branch-test.false))))
