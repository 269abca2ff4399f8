use Rattle.std.proofs.Common.{sym, subst}
use Rattle.std.proofs.lemmas.Option.{get_or_from_slice_get}
use Rattle.nomos_ir.specs.declared.mode.Mode.{Mode}
use Rattle.nomos_types.specs.Modes.{HasMode}
use Rattle.nomos_types.proofs.ModeLaws.{mode-exists}
use Rattle.nomos_check.proofs.mode_rules.mode_of.Goals as goal

pub returns : goal.returns
returns c =
    let (m, has) = mode-exists c.args.program.now c.args.t c.know.ensures.program c.requires.in_range in
    let read = get_or_from_slice_get c.args.modes.now c.args.t.0 m _ (c.requires.modes.own c.args.t m has) in
    subst (λ (k : Mode). HasMode c.args.program.now c.args.t k) (sym read) has
