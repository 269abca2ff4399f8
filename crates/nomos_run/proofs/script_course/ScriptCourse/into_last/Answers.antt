use Rattle.nomos_run.proofs.CourseLemmas.{phase-so_far}
use Rattle.nomos_run.proofs.script_course.ScriptCourse.into_last.Goals as goal

pub returns-clause-err : goal.returns-clause-err
returns-clause-err g c =
    rw (← c.self.view_is) (phase-so_far c.self.inside.trail c.self.inside.phase c.self.invariant.phase)
