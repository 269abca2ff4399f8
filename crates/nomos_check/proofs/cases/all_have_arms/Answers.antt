use Rattle.std.proofs.Common.{◌∙◌, sym}
use Rattle.nomos_check.specs.mirror.Cases.{HasArm}
use Rattle.nomos_check.proofs.CaseSteps.{more-items}
use Rattle.nomos_check.proofs.cases.all_have_arms.Goals as goal

pub loop-b-preserved : goal.loop-b-preserved
loop-b-preserved c =
    more-items (λ b. HasArm c.args.arms.now b.label) c.args.branches.now c.loop-b.b-index _ c.loop-b-test.true
    c.loop-b.invariant (((c.in_ok-labels.ensures _).0 (sym c.contains.ensures ∙ c.if-not-contains.false)))
