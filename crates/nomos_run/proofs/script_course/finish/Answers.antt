use Rattle.std.proofs.Common.{refl}
use Rattle.std.proofs.lemmas.Result.{err_from_is_err_and}
use Rattle.nomos_run.proofs.CourseLemmas.{come-so_far, under-passed, wanting-moved}
use Rattle.nomos_run.proofs.script_course.finish.Goals as goal

pub returns-in_err-passed : goal.returns-in_err-passed
returns-in_err-passed g c =
    let is = err_from_is_err_and c.from_residual.result c.from_residual.ensures.1 in
    wanting-moved c.from_residual.result is.0 is.1 (record { accepted = refl; orders = refl; items = refl }) refl
    (come-so_far c.args.trail.now c.requires.under.come refl)

pub pass-requires : goal.pass-requires
pass-requires g c =
    let done = c.in_ok-passed.ensures in
    under-passed c.args.under c.requires.trail c.requires.under c.into_world-world.result c.into_world-world.ensures
    c.args.end c.requires.allowed c.in_ok-passed.passed c.finish.new.self done.ledger done.entry done.walk
