-- Why a program does not have a skeleton in every part: a shared type that does not lead back, a function whose body
-- does not have its kind, an instruction that is stuck. Of these a shared type is named first, and then what comes
-- first in the text.
use Rattle.std.specs.Prelude.{◌≡◌, ◌⊎◌, ℕ, List, Some, slice_get}
use Rattle.nomos_ir.specs.declared.code_form.CodeForm.{CodeForm}
use Rattle.nomos_ir.specs.declared.declaration.FnDecl.{FnDecl}
use Rattle.nomos_ir.specs.declared.declaration.ProcDecl.{ProcDecl}
use Rattle.nomos_ir.specs.declared.ids.TypeId.{TypeId}
use Rattle.nomos_ir.specs.declared.lists.ProgramLists.{ProgramLists}
use Rattle.nomos_ir.specs.declared.type_node.TypeNode.TheVariants as node
use Rattle.nomos_ir.specs.FirstOffset.{NoneBefore}
use Rattle.nomos_ir.specs.Nodes.{type_node}
use Rattle.nomos_ir.specs.TermKind.{HasKind}
use Rattle.nomos_equality.specs.declared.hop.Hop.{Hop}
use Rattle.nomos_equality.specs.SyncAnswer.{StraysAt}
use Rattle.nomos_types.specs.Amount.{Annotations}
use Rattle.nomos_types.specs.Equality.{no_amounts}
use Rattle.nomos_types.specs.Forming.{StandsAtOffset}
use Rattle.nomos_types.specs.Synchronizing.{IsSynchronizing}
use Rattle.nomos_types.specs.Typed.{IsTypedProgram}
use Rattle.nomos_check.specs.Checking.{IsStuckAt}
use Rattle.nomos_rows.specs.declared.program_rows.RowsError.{RowsError}
use Rattle.nomos_rows.specs.declared.program_rows.RowsError.TheVariants as error

-- the `up` at this offset does not lead back: at the end of the path stands a `down` behind which another type stands
pub record LeadsAstray (lists : ProgramLists) (at : ℕ) (path : List Hop) : Type 0 where
  pub shared : TypeId
  pub body : TypeId
  pub is_up : type_node lists shared.0 ≡ Some (node.Up body)
  pub offset : StandsAtOffset lists shared at
  pub offends : StraysAt lists body shared path

-- the `up` at this offset does not lead back, by some path
abbrev pub IsAstray : ProgramLists → ℕ → Type 0
IsAstray lists at = (path : List Hop) × LeadsAstray lists at path

-- the body of the function whose name stands at this offset does not have the declared kind
pub record HasOtherKind (lists : ProgramLists) (at : ℕ) : Type 0 where
  pub place : ℕ
  pub function : FnDecl
  pub declared : slice_get lists.fns place ≡ Some function
  pub offset : function.at ≡ at
  pub other : ¬ (HasKind lists function.pars function.body function.gives)

-- an instruction of this offset and form is stuck in some declaration
pub record GetsStuck (lists : ProgramLists) (at : ℕ) (form : CodeForm) : Type 0 where
  pub place : ℕ
  pub declaration : ProcDecl
  pub declared : slice_get lists.procs place ≡ Some declaration
  pub stuck : IsStuckAt lists declaration at form

-- a function or a process has a fault at this offset
abbrev pub IsFaulty : ProgramLists → ℕ → Type 0
IsFaulty lists at = HasOtherKind lists at ⊎ ((form : CodeForm) × GetsStuck lists at form)

-- the program is typed under no amounts at all
abbrev pub IsNeverTyped : ProgramLists → Type 0
IsNeverTyped lists = (x : Annotations) → ¬ (IsTypedProgram lists x)

-- what the error says is so, and it is what is named first; then the program is typed under no amounts at all
abbrev pub IsCause : ProgramLists → RowsError → Type 0
IsCause lists (error.NotSync at path) =
    LeadsAstray lists at path × NoneBefore (IsAstray lists) at × IsNeverTyped lists
IsCause lists (error.TermType at) =
    IsSynchronizing lists no_amounts × HasOtherKind lists at × NoneBefore (IsFaulty lists) at × IsNeverTyped lists
IsCause lists (error.ProcType at form) =
    IsSynchronizing lists no_amounts × GetsStuck lists at form × NoneBefore (IsFaulty lists) at × IsNeverTyped lists
IsCause lists error.NoMemory = Unit {0}
