use Rattle.std.proofs.Common.{◌∙◌, sym}
use Rattle.nomos_state.proofs.LookLemmas.{types-found}
use Rattle.nomos_state.proofs.readings.type_of.Goals as goal

pub returns : goal.returns
returns c = c.get.ensures ∙ sym (types-found c.args.contents.now.names.now c.args.name c.requires.names_ascending)
