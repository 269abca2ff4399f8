use Rattle.std.proofs.Common.{sym, subst}
use Rattle.std.proofs.lemmas.Option.{get_or_from_slice_get}
use Rattle.nomos_ir.specs.declared.mode.Mode.{Mode}
use Rattle.nomos_types.specs.Modes.{HasMode}
use Rattle.nomos_types.proofs.ModeLaws.{mode-exists}
use Rattle.nomos_typed.specs.mirror.ComparedWith.{program_of}
use Rattle.nomos_typed.proofs.told.Told.mode_of.Goals as goal

pub returns : goal.returns
returns c =
    let told = c.args.self.now in
    let lists = program_of told in
    let (m, has) = mode-exists lists c.args.t c.program.ensures.accepted.is_program c.requires.in_range in
    let read = get_or_from_slice_get told.modes.now c.args.t.0 m _ (c.requires.told.modes.own c.args.t m has) in
    subst (λ (k : Mode). HasMode lists c.args.t k) (sym read) has
