use Rattle.std.proofs.Common.{List, map, ◌++◌}
use Rattle.std.specs.List.{flat_map}
use Rattle.nomos_ir.specs.declared.declaration.ProcDecl.{ProcDecl}
use Rattle.nomos_ir.specs.declared.ids.TypeId.{TypeId}
use Rattle.nomos_ir.specs.declared.mode.Mode.{Mode}
use Rattle.nomos_ir.specs.declared.type_node.Def.{Def}
use Rattle.nomos_types.specs.Modes.{parameter_mode}
use Rattle.nomos_types.proofs.ModeSettingLemmas.{with_modes-append}
use Rattle.nomos_types.proofs.mode_table.set_wholes.Goals as goal

-- definitions, parameters and offers are set one after another
pub returns : goal.returns
returns c =
    let lists = c.args.program.now in
    let bodies : List (TypeId × Mode) = map (λ (d : Def). (d.body, d.mode)) lists.defs in
    let channels : List (TypeId × Mode) = flat_map
    (λ (d : ProcDecl). map (λ par. (par.1, parameter_mode lists par.1)) d.channels) lists.procs in
    let offers : List (TypeId × Mode) = map (λ (d : ProcDecl). (d.offers, d.mode)) lists.procs in
    cc (
      with_modes-append (bodies ++ channels) offers c.args.modes.now,
      with_modes-append bodies channels c.args.modes.now,
      c.set_bodies.ensures,
      c.set_parameters.ensures,
      c.set_offers.ensures,
      c.lists.ensures.lists,
      c.lists-2.ensures.lists,
    )
