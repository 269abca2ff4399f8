-- The text is loaded, and so its parts are told.
use Rattle.nomos_carrying.specs.mirror.Renumbering.{not_loaded}
use Rattle.nomos_carrying.proofs.RenumberLemmas.{parts-err, parts-ok}
use Rattle.nomos_carrying.proofs.renumbering.loaded_parts.Goals as goal

pub returns-in-Ok-clause-ok : goal.returns-in-Ok-clause-ok
returns-in-Ok-clause-ok g c = parts-ok c.in-Ok.ledger c.parts_told.result c.in-Ok.ensures.ok c.parts_told.ensures.ok

pub returns-in-Ok-clause-err : goal.returns-in-Ok-clause-err
returns-in-Ok-clause-err g c =
    parts-err c.args.accepted.now c.args.text.now c.parts_told.result c.parts_told.ensures.err

pub returns-in-Err-clause-err : goal.returns-in-Err-clause-err
returns-in-Err-clause-err g c = λ other. not_loaded (c.in-Err.ensures.err other)
