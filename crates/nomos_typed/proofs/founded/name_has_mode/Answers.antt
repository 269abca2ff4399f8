use Rattle.std.proofs.Common.{◌∙◌, sym}
use Rattle.nomos_typed.proofs.FoundedLemmas.{mode-exact}
use Rattle.nomos_typed.proofs.founded.name_has_mode.Goals as goal

pub returns-in-Some : goal.returns-in-Some
returns-in-Some c =
    mode-exact c.args.told.now c.requires c.know.ensures.accepted.is_program c.args.name c.in-Some.own
    c.args.mode c.is_mode.result (sym c.mode_in.ensures ∙ c.in-Some.is) c.is_mode.ensures
