use Rattle.std.proofs.Common.{List, map}
use Rattle.nomos_ir.specs.declared.declaration.ProcDecl.{ProcDecl}
use Rattle.nomos_ir.specs.declared.ids.TypeId.{TypeId}
use Rattle.nomos_ir.specs.declared.mode.Mode.{Mode}
use Rattle.nomos_types.specs.Modes.{parameter_mode}
use Rattle.nomos_types.proofs.ModeSettingLemmas.{with_modes-more_each}
use Rattle.nomos_types.proofs.mode_table.set_parameters.Goals as goal

-- the parameters of one more declaration
pub loop-d-preserved : goal.loop-d-preserved
loop-d-preserved c =
    let f : ProcDecl → List (TypeId × Mode) = λ d.
    map (λ par. (par.1, parameter_mode c.args.program.now par.1)) d.channels in
    let more = with_modes-more_each f c.as_slice-d-items.result.now c.loop-d.d-index c.d-item.result c.args.modes.now
    c.d-item.is c.loop-d-test.true in
    cc (more, c.loop-d.invariant, c.as_slice-d-items.ensures, c.lists.ensures.lists, c.set_channels.ensures)
