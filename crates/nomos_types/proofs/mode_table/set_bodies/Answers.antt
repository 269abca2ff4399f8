use Rattle.nomos_ir.specs.declared.ids.TypeId.{TypeId}
use Rattle.nomos_ir.specs.declared.mode.Mode.{Mode}
use Rattle.nomos_ir.specs.declared.type_node.Def.{Def}
use Rattle.nomos_types.proofs.ModeSettingLemmas.{with_modes-more_item}
use Rattle.nomos_types.proofs.mode_table.set_bodies.Goals as goal

-- one more definition
pub loop-def-preserved : goal.loop-def-preserved
loop-def-preserved c =
    let f : Def → TypeId × Mode = λ d. (d.body, d.mode) in
    let more = with_modes-more_item f c.as_slice-def-items.result.now c.loop-def.def-index c.def-item.result
    c.args.modes.now c.def-item.is c.loop-def-test.true in
    cc (more, c.loop-def.invariant, c.as_slice-def-items.ensures)
