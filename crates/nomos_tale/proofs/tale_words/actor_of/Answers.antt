-- The amounts of a program's instructions are the program's.
use Rattle.std.proofs.Common.{sym, subst, All}
use Rattle.nomos_ir.specs.CodeParts.{code_amounts}
use Rattle.nomos_ir.specs.declared.lists.ProgramLists.{ProgramLists}
use Rattle.nomos_types.specs.Acceptance.{IsAmountOf}
use Rattle.nomos_types.proofs.AmountLaws.{code-is_amount_of}
use Rattle.nomos_tale.proofs.tale_words.actor_of.Goals as goal

pub returns-clause-amounts : goal.returns-clause-amounts
returns-clause-amounts g c =
    subst (λ (lists : ProgramLists). All (IsAmountOf lists) (code_amounts c.in_ok-node.node.now))
    c.program.ensures.program
    (code-is_amount_of c.program.result.now c.in_ok-seen.seen.code.0 c.in_ok-node.node.now
    c.lists.ensures.program.amounts
    (rw (sym c.lists.ensures.lists) (sym c.in_ok-node.ensures)))
