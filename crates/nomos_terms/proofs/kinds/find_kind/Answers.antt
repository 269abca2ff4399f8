-- What is left leads to the kinds of the whole term.
use Rattle.std.proofs.Common.{Err, refl, ap}
use Rattle.std.proofs.lemmas.Result.{err_from_is_err_and}
use Rattle.nomos_ir.specs.declared.or_no_memory.OrNoMemory.{OrNoMemory}
use Rattle.nomos_terms.specs.declared.search.NoKind.{NoKind}
use Rattle.nomos_terms.proofs.StayLemmas.{stays-first, stays-done, stays-vain, stays-last, stays-none, stopped}
use Rattle.nomos_terms.proofs.kinds.find_kind.Goals as goal

pub loop-task-init : goal.loop-task-init
loop-task-init c =
    stays-first c.args.program.now c.args.outer.now c.args.t _ (rw c.new.ensures at c.in_ok-push.ensures)
    c.new-2.ensures c.new-3.ensures

pub loop-task-preserved : goal.loop-task-preserved
loop-task-preserved c =
    stays-done c.args.program.now c.args.outer.now c.args.t c.in-Some.task c.loop-task.search _ _ c.in-Some.ensures refl
    refl c.loop-task.invariant c.in_ok-do_task.ensures.done

pub returns-in_err-do_task : goal.returns-in_err-do_task
returns-in_err-do_task c =
    let p = err_from_is_err_and c.from_residual-in_err-do_task.result c.from_residual-in_err-do_task.ensures.1 in
    rw
    (p.1, p.2)
    (stopped c.args.program.now c.args.outer.now c.args.t c.in_err-do_task.field-0.0
    (λ none. stays-vain c.args.program.now c.args.outer.now c.args.t c.in-Some.task c.loop-task.search _
    c.in-Some.ensures refl refl c.loop-task.invariant
    (c.in_err-do_task.ensures.vain (ap (λ (why : OrNoMemory NoKind). Err why) none))))

pub returns-in-Some-pop : goal.returns-in-Some-pop
returns-in-Some-pop c =
    stays-last c.args.program.now c.args.outer.now c.args.t c.loop-task.search c.in-Some-pop.kind _
    c.in_default.ensures.0 c.in-Some-pop.ensures c.loop-task.invariant

pub returns : goal.returns
returns c =
    stays-none c.args.program.now c.args.outer.now c.args.t c.loop-task.search c.in_default.ensures.0
    c.in-None.ensures.0 c.loop-task.invariant
