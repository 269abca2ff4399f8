use Rattle.nomos_ir.specs.declared.ids.TypeId.{TypeId}
use Rattle.nomos_ir.specs.declared.ids.VarId.{VarId}
use Rattle.nomos_ir.specs.declared.mode.Mode.{Mode}
use Rattle.nomos_types.specs.Modes.{parameter_mode}
use Rattle.nomos_types.proofs.ModeSettingLemmas.{with_modes-more}
use Rattle.nomos_types.proofs.mode_table.set_channels.Goals as goal

-- one more parameter
pub loop-par-preserved : goal.loop-par-preserved
loop-par-preserved c =
    let f : VarId × TypeId → TypeId × Mode = λ par. (par.1, parameter_mode c.args.program.now par.1) in
    let none : VarId × TypeId = (record { 0 = 0 }, record { 0 = 0 }) in
    let more = with_modes-more f c.as_slice-par-items.result.now c.loop-par.par-index none c.args.modes.now
    c.loop-par-test.true in
    cc (more, c.loop-par.invariant, c.as_slice-par-items.ensures, c.taken_mode.ensures)
