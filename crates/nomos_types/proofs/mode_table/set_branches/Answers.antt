use Rattle.nomos_ir.specs.declared.ids.TypeId.{TypeId}
use Rattle.nomos_ir.specs.declared.mode.Mode.{Mode}
use Rattle.nomos_ir.specs.declared.type_node.Branch.{Branch}
use Rattle.nomos_types.proofs.ModeSettingLemmas.{with_modes-more}
use Rattle.nomos_types.proofs.mode_table.set_branches.Goals as goal

-- one more branch
pub loop-branch-preserved : goal.loop-branch-preserved
loop-branch-preserved c =
    let f : Branch → TypeId × Mode = λ b. (b.goes, c.args.mode) in
    let none : Branch = record { label = record { 0 = 0 }; goes = record { 0 = 0 } } in
    let more = with_modes-more f c.args.branches.now c.loop-branch.branch-index none c.args.modes.now
    c.loop-branch-test.true in
    cc (more, c.loop-branch.invariant)
