use Rattle.std.proofs.Common.{IfOk, Ok, Err}
use Rattle.std.specs.declared.result.Result.{Result}
use Rattle.nomos_forms.specs.declared.row_list.RowList.{RowList}
use Rattle.nomos_ir.specs.declared.lists.ProgramLists.{ProgramLists}
use Rattle.nomos_ir.specs.Amounts.{star_count}
use Rattle.nomos_types.specs.Typed.{IsWellFormed}
use Rattle.nomos_rows.proofs.MeetingLaws.{program-rows-law}
use Rattle.nomos_rows.proofs.program_rows.program_rows.Goals as goal
use Rattle.nomos_rows.specs.declared.program_rows.RowsError.{RowsError}
use Rattle.nomos_rows.specs.ProgramRows.{IsTypedByRows}
use Rattle.nomos_rows.specs.mirror.PartAnswers.{AnswersProgram}

-- the law of what is found
law-found : (lists : ProgramLists) (found : Result RowList RowsError) → IsWellFormed lists
    → AnswersProgram lists found → IfOk found (λ made. IsTypedByRows lists (star_count lists) made.rows)
law-found lists (Ok made) formed has = program-rows-law formed has.skeletons has.are_rows
law-found lists (Err e) formed cause = tt

pub returns-in-Ok-clause-law : goal.returns-in-Ok-clause-law
returns-in-Ok-clause-law c = law-found c.args.program.now c.in-Ok.found c.requires.formed c.in-Ok.ensures
