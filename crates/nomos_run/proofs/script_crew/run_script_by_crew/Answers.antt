use denote.Exit.{no}
use denote.Param.{param}
use denote.Param.Send.{arg_send, param_send}
use denote.Ref.{NamedLft}
use mir.Syntax.{named}
use Rattle.std.proofs.Common.{◌∙◌, [], ap, subst, sym}
use Rattle.nomos_legal.specs.Ledger.{LedgerState, empty_ledger}
use Rattle.nomos_legal.specs.StandsFor.{StandsNamed}
use Rattle.nomos_run.proofs.CarriedLaws.{given-report, given-text}
use Rattle.nomos_run.proofs.CarryLemmas.{gone-begun, last-report, ledger-standing, none-so_far, run-so_far}
use Rattle.nomos_run.proofs.CourseLemmas.{course-run}
use Rattle.nomos_run.proofs.Sending.{asked_sends, course_sends}
use Rattle.nomos_run.specs.mirror.Courses.{opening}
use Rattle.nomos_run.specs.mirror.Runs.{HasGone}
use Rattle.nomos_run.proofs.script_crew.run_script_by_crew.Goals as goal

-- a run of which no item was carried out
pub returns-in_default-clause-runs : goal.returns-in_default-clause-runs
returns-in_default-clause-runs g c =
    run-so_far c.end_at_once.result
    (none-so_far c.args.accepted.now empty_ledger c.args.script.now c.args.runner.now.orders c.requires.limit)
    c.end_at_once.ensures.journal c.end_at_once.ensures.none

pub returns-in_default-new-clause-runs : goal.returns-in_default-new-clause-runs
returns-in_default-new-clause-runs g c =
    run-so_far c.end_at_once-in_default-new.result
    (none-so_far c.args.accepted.now empty_ledger c.args.script.now c.args.runner.now.orders c.requires.limit)
    c.end_at_once-in_default-new.ensures.journal c.end_at_once-in_default-new.ensures.none

pub new-course-requires-clause-standing : goal.new-course-requires-clause-standing
new-course-requires-clause-standing g c =
    let a = c.args.accepted.now in
    subst (λ (l : LedgerState). StandsNamed a l) c.empty-from.ensures.empty
    (ledger-standing (c.empty-from.ensures.stands a) c.know_ledger.ensures)

pub new-course-requires-clause-begins : goal.new-course-requires-clause-begins
new-course-requires-clause-begins g c =
    let a = c.args.accepted.now in
    let way = c.in-Ok.way in
    subst
    (λ (l : LedgerState). HasGone a empty_ledger c.args.runner.now.orders [] way.entries.items l way.walk)
    (sym c.empty-from.ensures.empty)
    (gone-begun a empty_ledger c.args.runner.now.orders c.requires.limit c.in-Ok.ensures.walk c.in-Ok.ensures.entries)

pub run_course-course-requires-send-C : goal.run_course-course-requires-send-C
run_course-course-requires-send-C g c κs within =
    let lifetime : NamedLft = record { mir = named 5; lft = κs.1.1.1.1.1.0 } in
    param_send 0 _ (arg_send _ no _ (course_sends (param 0 g.row.M) g.M.Acting g.M.Sight lifetime
    c.type_bounds.send-M))

pub run_course-course-requires-send-C-Asked : goal.run_course-course-requires-send-C-Asked
run_course-course-requires-send-C-Asked g c κs within =
    param_send 3 _ (arg_send _ no _ (asked_sends (record { mir = named 5; lft = κs.1.1.1.1.1.0 })))

pub end-requires : goal.end-requires
end-requires g c = last-report _ _ _ _ _ _ c.into_last-way.result.1 c.into_last-way.ensures.ok

pub returns-clause-runs : goal.returns-clause-runs
returns-clause-runs g c =
    let a = c.args.accepted.now in
    course-run c.run_course-course.result c.into_last-way.result.0.walk c.end.result c.into_last-way.result.1
    (c.run_course-course.ensures ∙ ap opening (c.in-Ok-new.ensures.ok ∙ c.new-course.ensures))
    (c.as_slice-items.ensures ∙ c.items.ensures.items)
    c.know.ensures.accepted
    (subst (λ (l : LedgerState). StandsNamed a l) c.empty-from.ensures.empty
    (ledger-standing (c.empty-from.ensures.stands a) c.know_ledger.ensures))
    c.into_last-way.ensures.ok c.into_last-way.ensures.err c.end.ensures.journal c.end.ensures.whole
    c.end.ensures.none

pub returns-clause-report : goal.returns-clause-report
returns-clause-report g c = given-report c.end.result (returns-clause-runs g c)

pub returns-clause-text : goal.returns-clause-text
returns-clause-text g c = given-text c.end.result (returns-clause-runs g c)
