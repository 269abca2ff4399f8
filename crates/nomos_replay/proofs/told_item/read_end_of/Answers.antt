use Rattle.std.proofs.lemmas.Result.{err_from_is_err_and}
use Rattle.nomos_replay.proofs.told_item.read_end_of.Goals as goal

pub returns-in_err-kept-in-Some-clause-err : goal.returns-in_err-kept-in-Some-clause-err
returns-in_err-kept-in-Some-clause-err c =
    let p = err_from_is_err_and c.from_residual.result c.from_residual.ensures.1 in
    rw (p.1, p.2, c.in-Some.is) c.in_err-kept-in-Some.ensures.err
