use Rattle.nomos_run.specs.mirror.Courses.{phase_firings}
use Rattle.nomos_run.proofs.CourseLemmas.{adds-behind, adds-settled}
use Rattle.nomos_run.proofs.script_course.ScriptCourseCarriedCourse.look.Goals as goal

pub returns-in_err-pid-clause-history : goal.returns-in_err-pid-clause-history
returns-in_err-pid-clause-history g c =
    rw (← c.self.view_is) (adds-behind c.args.pass c.self.inside.trail.fired.items
    (phase_firings c.self.inside.phase) (phase_firings c.look_under.new.phase) c.look_under.ensures.history)

pub returns-in-Goes-clause-history : goal.returns-in-Goes-clause-history
returns-in-Goes-clause-history g c =
    rw (← c.self.view_is) (adds-behind c.args.pass c.self.inside.trail.fired.items
    (phase_firings c.self.inside.phase) (phase_firings c.look_under.new.phase) c.look_under.ensures.history)

pub returns-in-Rests-clause-history : goal.returns-in-Rests-clause-history
returns-in-Rests-clause-history g c =
    rw (← c.self.view_is) (adds-behind c.args.pass c.self.inside.trail.fired.items
    (phase_firings c.self.inside.phase) (phase_firings c.look_under.new.phase) c.look_under.ensures.history)

pub returns-in-Wants-clause-history : goal.returns-in-Wants-clause-history
returns-in-Wants-clause-history g c =
    rw (← c.self.view_is) (adds-behind c.args.pass c.self.inside.trail.fired.items
    (phase_firings c.self.inside.phase) (phase_firings c.look_under.new.phase) c.look_under.ensures.history)

pub returns-in_err-end_under-in-Ends-clause-history :
    goal.returns-in_err-end_under-in-Ends-clause-history
returns-in_err-end_under-in-Ends-clause-history g c =
    rw (← c.self.view_is) (adds-settled c.args.pass c.self.inside.trail.fired.items
    (phase_firings c.self.inside.phase) (phase_firings c.look_under.new.phase) _ c.look_under.ensures.history
    c.end_under.ensures.fired)

pub returns-in_ok-end_under-in-Ends-clause-history :
    goal.returns-in_ok-end_under-in-Ends-clause-history
returns-in_ok-end_under-in-Ends-clause-history g c =
    rw (← c.self.view_is) (adds-settled c.args.pass c.self.inside.trail.fired.items
    (phase_firings c.self.inside.phase) (phase_firings c.look_under.new.phase) _ c.look_under.ensures.history
    c.end_under.ensures.fired)
