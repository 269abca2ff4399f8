-- A mirror of the code: what is found of a program, where memory is found. No promise stands on it.
use Rattle.std.specs.Prelude.{◌≡◌, ℕ}
use Rattle.std.specs.declared.result.Result.{Result}
use Rattle.std.specs.declared.result.Result.TheVariants.{Ok, Err}
use Rattle.nomos_ir.specs.declared.lists.ProgramLists.{ProgramLists}
use Rattle.nomos_ir.specs.Amounts.{star_count}
use Rattle.nomos_forms.specs.declared.row_list.RowList.{RowList}
use Rattle.nomos_types.specs.Typed.{HasSkeletons}
use Rattle.nomos_rows.specs.declared.program_rows.RowsError.{RowsError}
use Rattle.nomos_rows.specs.declared.program_rows.RowsError.TheVariants as error
use Rattle.nomos_rows.specs.declared.first_fault.DeclarationFault.{DeclarationFault}
use Rattle.nomos_rows.specs.declared.first_fault.DeclarationFault.TheVariants as fault
use Rattle.nomos_rows.specs.PartFaults.{IsCause}
use Rattle.nomos_rows.specs.ProgramRows.{AreProgramRows}

-- the answer that names a fault
abbrev pub error_of : ℕ → DeclarationFault → RowsError
error_of at fault.OtherKind = error.TermType at
error_of at (fault.Stuck form) = error.ProcType at form

-- the rows of a program whose parts have skeletons
pub record HasRows (lists : ProgramLists) (made : RowList) : Type 0 where
  pub stars : made.stars ≡ star_count lists
  pub skeletons : HasSkeletons lists
  pub are_rows : AreProgramRows lists (star_count lists) made.rows

abbrev pub AnswersProgram : ProgramLists → Result RowList RowsError → Type 0
AnswersProgram lists (Ok made) = HasRows lists made
AnswersProgram lists (Err e) = IsCause lists e
