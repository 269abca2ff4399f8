use Rattle.std.proofs.Common.{◌∙◌, sym, subst, All}
use Rattle.nomos_ir.specs.CodeParts.{code_amounts}
use Rattle.nomos_ir.specs.declared.lists.ProgramLists.{ProgramLists}
use Rattle.nomos_types.specs.Acceptance.{IsAmountOf}
use Rattle.nomos_types.proofs.AmountLaws.{code-is_amount_of}
use Rattle.nomos_deeds.proofs.arms.code_at.Goals as goal

pub returns-clause-amounts : goal.returns-clause-amounts
returns-clause-amounts c n found =
    subst (λ (lists : ProgramLists). All (IsAmountOf lists) (code_amounts n)) c.program.ensures.program
    (code-is_amount_of c.program.result.now c.args.c.0 n c.lists.ensures.program.amounts
    (rw (sym c.lists.ensures.lists) (sym c.find_code.ensures ∙ found)))
