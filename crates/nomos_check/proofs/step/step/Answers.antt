-- Most instructions ask for no pair of amounts.
use Rattle.std.proofs.Common.{◌∙◌, Some, ap}
use Rattle.nomos_ir.specs.declared.code_node.CodeNode.TheVariants as code
use Rattle.nomos_check.proofs.PairLemmas.{quiet-step, quiet-result}
use Rattle.nomos_check.proofs.step.step.Goals as goal

pub returns-in-Label-clause-asks : goal.returns-in-Label-clause-asks
returns-in-Label-clause-asks c =
    quiet-result c.args.program.now c.args.now.now c.args.asked.now
    (code.Label c.in-Label.field-0 c.in-Label.c c.in-Label.l c.in-Label.next)
    (c.code.ensures ∙ ap Some c.in-Label.is) (λ a pair asks. asks) c.at_label.result

pub returns-in-Case-clause-asks : goal.returns-in-Case-clause-asks
returns-in-Case-clause-asks c =
    quiet-result c.args.program.now c.args.now.now c.args.asked.now
    (code.Case c.in-Case.field-0 c.in-Case.c c.in-Case.arms)
    (c.code.ensures ∙ ap Some c.in-Case.is) (λ a pair asks. asks) c.at_case.result

pub returns-in-Recv-clause-asks : goal.returns-in-Recv-clause-asks
returns-in-Recv-clause-asks c =
    quiet-result c.args.program.now c.args.now.now c.args.asked.now
    (code.Recv c.in-Recv.field-0 c.in-Recv.c c.in-Recv.y c.in-Recv.next)
    (c.code.ensures ∙ ap Some c.in-Recv.is) (λ a pair asks. asks) c.at_recv.result

pub returns-in-Put-clause-asks : goal.returns-in-Put-clause-asks
returns-in-Put-clause-asks c =
    quiet-result c.args.program.now c.args.now.now c.args.asked.now
    (code.Put c.in-Put.field-0 c.in-Put.c c.in-Put.e c.in-Put.next)
    (c.code.ensures ∙ ap Some c.in-Put.is) (λ a pair asks. asks) c.at_put.result

pub returns-in-Take-clause-asks : goal.returns-in-Take-clause-asks
returns-in-Take-clause-asks c =
    quiet-result c.args.program.now c.args.now.now c.args.asked.now
    (code.Take c.in-Take.field-0 c.in-Take.c c.in-Take.v c.in-Take.next)
    (c.code.ensures ∙ ap Some c.in-Take.is) (λ a pair asks. asks) c.at_take.result

pub returns-in-Work-clause-asks : goal.returns-in-Work-clause-asks
returns-in-Work-clause-asks c =
    quiet-step c.args.program.now c.args.now.now c.args.asked.now
    (code.Work c.in-Work.field-0 c.in-Work.r c.in-Work.next)
    (c.code.ensures ∙ ap Some c.in-Work.is) (λ a pair asks. asks) c.at_work.result

pub returns-in-Wait-clause-asks : goal.returns-in-Wait-clause-asks
returns-in-Wait-clause-asks c =
    quiet-step c.args.program.now c.args.now.now c.args.asked.now
    (code.Wait c.in-Wait.field-0 c.in-Wait.v c.in-Wait.next)
    (c.code.ensures ∙ ap Some c.in-Wait.is) (λ a pair asks. asks) c.at_wait.result

pub returns-in-Accept-clause-asks : goal.returns-in-Accept-clause-asks
returns-in-Accept-clause-asks c =
    quiet-step c.args.program.now c.args.now.now c.args.asked.now (code.Accept c.in-Accept.field-0 c.in-Accept.next)
    (c.code.ensures ∙ ap Some c.in-Accept.is) (λ a pair asks. asks) c.at_accept.result

pub returns-in-Detach-clause-asks : goal.returns-in-Detach-clause-asks
returns-in-Detach-clause-asks c =
    quiet-step c.args.program.now c.args.now.now c.args.asked.now (code.Detach c.in-Detach.field-0 c.in-Detach.next)
    (c.code.ensures ∙ ap Some c.in-Detach.is) (λ a pair asks. asks) c.at_detach.result

pub returns-in-Acquire-clause-asks : goal.returns-in-Acquire-clause-asks
returns-in-Acquire-clause-asks c =
    quiet-result c.args.program.now c.args.now.now c.args.asked.now
    (code.Acquire c.in-Acquire.field-0 c.in-Acquire.a c.in-Acquire.v c.in-Acquire.next)
    (c.code.ensures ∙ ap Some c.in-Acquire.is) (λ a pair asks. asks) c.at_acquire.result

pub returns-in-Release-clause-asks : goal.returns-in-Release-clause-asks
returns-in-Release-clause-asks c =
    quiet-result c.args.program.now c.args.now.now c.args.asked.now
    (code.Release c.in-Release.field-0 c.in-Release.v c.in-Release.a c.in-Release.next)
    (c.code.ensures ∙ ap Some c.in-Release.is) (λ a pair asks. asks) c.at_release.result

pub returns-in-Let-clause-asks : goal.returns-in-Let-clause-asks
returns-in-Let-clause-asks c =
    quiet-result c.args.program.now c.args.now.now c.args.asked.now
    (code.Let c.in-Let.field-0 c.in-Let.v c.in-Let.e c.in-Let.next)
    (c.code.ensures ∙ ap Some c.in-Let.is) (λ a pair asks. asks) c.at_let.result

pub returns-in-Emit-clause-asks : goal.returns-in-Emit-clause-asks
returns-in-Emit-clause-asks c =
    quiet-result c.args.program.now c.args.now.now c.args.asked.now
    (code.Emit c.in-Emit.field-0 c.in-Emit.e c.in-Emit.next)
    (c.code.ensures ∙ ap Some c.in-Emit.is) (λ a pair asks. asks) c.at_emit.result

pub returns-in-If-clause-asks : goal.returns-in-If-clause-asks
returns-in-If-clause-asks c =
    quiet-result c.args.program.now c.args.now.now c.args.asked.now
    (code.If c.in-If.field-0 c.in-If.e c.in-If.yes c.in-If.no)
    (c.code.ensures ∙ ap Some c.in-If.is) (λ a pair asks. asks) c.at_if.result

pub returns-in-Close-clause-asks : goal.returns-in-Close-clause-asks
returns-in-Close-clause-asks c =
    quiet-step c.args.program.now c.args.now.now c.args.asked.now (code.Close c.in-Close.field-0)
    (c.code.ensures ∙ ap Some c.in-Close.is) (λ a pair asks. asks) c.at_close.result

pub returns-in-Empty-clause-asks : goal.returns-in-Empty-clause-asks
returns-in-Empty-clause-asks c =
    quiet-result c.args.program.now c.args.now.now c.args.asked.now
    (code.Empty c.in-Empty.field-0 c.in-Empty.v c.in-Empty.r c.in-Empty.k c.in-Empty.next)
    (c.code.ensures ∙ ap Some c.in-Empty.is) (λ a pair asks. asks) c.at_empty.result

pub returns-in-Add-clause-asks : goal.returns-in-Add-clause-asks
returns-in-Add-clause-asks c =
    quiet-result c.args.program.now c.args.now.now c.args.asked.now
    (code.Add c.in-Add.field-0 c.in-Add.v c.in-Add.e c.in-Add.w c.in-Add.next)
    (c.code.ensures ∙ ap Some c.in-Add.is) (λ a pair asks. asks) c.at_add.result

pub returns-in-Match-clause-asks : goal.returns-in-Match-clause-asks
returns-in-Match-clause-asks c =
    quiet-result c.args.program.now c.args.now.now c.args.asked.now
    (code.Match c.in-Match.field-0 c.in-Match.w c.in-Match.none c.in-Match.h c.in-Match.t c.in-Match.some)
    (c.code.ensures ∙ ap Some c.in-Match.is) (λ a pair asks. asks) c.at_match.result
