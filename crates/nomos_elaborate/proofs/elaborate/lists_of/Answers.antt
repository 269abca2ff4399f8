use Rattle.std.proofs.lemmas.Result.{err_from_is_err_and}
use Rattle.nomos_elaborate.proofs.StopLaws.{stops-found}
use Rattle.nomos_elaborate.proofs.elaborate.lists_of.Goals as goal

pub returns-in_err-types : goal.returns-in_err-types
returns-in_err-types c =
    let p = err_from_is_err_and c.from_residual.result c.from_residual.ensures.1 in
    rw (p.1, p.2) (stops-found c.in_err-types.field-0.0 _ _ c.in_err-types.ensures.memory)
