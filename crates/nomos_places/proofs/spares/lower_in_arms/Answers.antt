use Rattle.std.proofs.Common.{◌∙◌, ℕ, get_or, ap, sym}
use Rattle.nomos_ir.specs.declared.code_node.Arm.{Arm}
use Rattle.nomos_places.proofs.NeedLemmas.{lowest-more}
use Rattle.nomos_places.specs.mirror.Needing.{lower}
use Rattle.nomos_places.proofs.spares.lower_in_arms.Goals as goal

pub loop-arm-preserved : goal.loop-arm-preserved
loop-arm-preserved c =
    let spares = c.args.spares.now in
    let d : Arm = record { label = record { 0 = 0 }; goes = record { 0 = 0 } } in
    c.lower-least.ensures
    ∙ ap (λ (most : ℕ). lower spares most (get_or c.args.arms.now c.loop-arm.arm-index d).goes.0) c.loop-arm.invariant
    ∙ sym (lowest-more spares c.args.most c.args.arms.now c.loop-arm.arm-index d c.loop-arm-test.true)
