use Rattle.std.proofs.Common.{ℕ, List, Option, length, subst, sym}
use Rattle.std.specs.declared.result.Result.{Result}
use Rattle.nomos_equality.specs.Comparing.{Compared}
use Rattle.nomos_equality.specs.declared.hop.Hop.{Hop}
use Rattle.nomos_forms.specs.declared.row_list.RowList.{RowList}
use Rattle.nomos_rows.proofs.AnswerLemmas.{astray-cause, back-synchronizing, fault-cause, rows-found}
use Rattle.nomos_rows.proofs.program_rows.find_rows.Goals as goal
use Rattle.nomos_rows.specs.declared.first_fault.DeclarationFault.{DeclarationFault}
use Rattle.nomos_rows.specs.PartFaults.{IsCause}
use Rattle.nomos_rows.specs.mirror.Processes.{AnswersDeclarations}
use Rattle.nomos_rows.specs.mirror.FirstFault.{TellsBelow}
use Rattle.nomos_rows.specs.mirror.Ups.{GoesAstray, GoesBack, IfNone, PairsBelow}

pub returns-in-Ok-Some : goal.returns-in-Ok-Some
returns-in-Ok-Some c =
    let lists = c.args.program.now in
    let Tells : Option (ℕ × List Hop) → Type 0 = TellsBelow (GoesAstray lists) (GoesBack lists) (length lists.types) in
    astray-cause (c.in-Ok-Some.at, c.in-Ok-Some.path) (subst Tells c.in-Ok-Some.field-0-is c.in-Ok-Some.ensures.tell)

pub returns-in-Ok : goal.returns-in-Ok
returns-in-Ok c =
    let lists = c.args.program.now in
    let known = c.first_astray.new.equalities in
    let Tells : Option (ℕ × List Hop) → Type 0 = TellsBelow (GoesAstray lists) (GoesBack lists) (length lists.types) in
    let Pairs : Type 0 = PairsBelow lists (length lists.types) c.new-equalities.result known in
    let back = subst Tells c.in-Ok-None.field-0-is c.in-Ok-None.ensures.tell in
    let joined : Pairs = subst (IfNone Pairs) c.in-Ok-None.field-0-is c.in-Ok-None.ensures.pairs in
    let pairs = subst (λ (old : Compared). PairsBelow lists (length lists.types) old known) c.new-equalities.ensures
    joined in
    let Says : Result RowList (ℕ × DeclarationFault) → Type 0 = AnswersDeclarations lists known in
    let answer = subst Says c.in-Ok.is c.in_ok-rows-in-Ok-None.ensures in
    rows-found c.requires.formed back known pairs c.in-Ok.rows answer.0 answer.1

pub returns-in-Err-2 : goal.returns-in-Err-2
returns-in-Err-2 c =
    let lists = c.args.program.now in
    let known = c.first_astray.new.equalities in
    let Tells : Option (ℕ × List Hop) → Type 0 = TellsBelow (GoesAstray lists) (GoesBack lists) (length lists.types) in
    let back = subst Tells c.in-Ok-None.field-0-is c.in-Ok-None.ensures.tell in
    let Says : Result RowList (ℕ × DeclarationFault) → Type 0 = AnswersDeclarations lists known in
    let answer = subst Says c.in-Err-2.is c.in_ok-rows-in-Ok-None.ensures in
    subst (IsCause lists) (sym c.error_of.ensures) (fault-cause
    (back-synchronizing back) c.in-Err-2.at c.in-Err-2.fault answer)
