use Rattle.nomos_ir.specs.declared.declaration.ProcDecl.{ProcDecl}
use Rattle.nomos_ir.specs.declared.ids.TypeId.{TypeId}
use Rattle.nomos_ir.specs.declared.mode.Mode.{Mode}
use Rattle.nomos_types.proofs.ModeSettingLemmas.{with_modes-more_item}
use Rattle.nomos_types.proofs.mode_table.set_offers.Goals as goal

-- one more declaration
pub loop-d-preserved : goal.loop-d-preserved
loop-d-preserved c =
    let f : ProcDecl → TypeId × Mode = λ d. (d.offers, d.mode) in
    let more = with_modes-more_item f c.as_slice-d-items.result.now c.loop-d.d-index c.d-item.result c.args.modes.now
    c.d-item.is c.loop-d-test.true in
    cc (more, c.loop-d.invariant, c.as_slice-d-items.ensures)
