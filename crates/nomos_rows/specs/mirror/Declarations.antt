-- A mirror of the code: the faults of functions and of processes, by their places. No promise stands on it.
use Rattle.std.specs.Prelude.{◌≡◌, ℕ, Option, Some, None, slice_get}
use Rattle.nomos_ir.specs.declared.code_form.CodeForm.{CodeForm}
use Rattle.nomos_ir.specs.declared.declaration.FnDecl.{FnDecl}
use Rattle.nomos_ir.specs.declared.declaration.ProcDecl.{ProcDecl}
use Rattle.nomos_ir.specs.declared.lists.ProgramLists.{ProgramLists}
use Rattle.nomos_ir.specs.FirstOffset.{NoneBefore}
use Rattle.nomos_ir.specs.TermKind.{HasKind, FunctionsAreTyped}
use Rattle.nomos_types.specs.Derivation.{HasSkeleton}
use Rattle.nomos_check.specs.Checking.{IsStuckAt}
use Rattle.nomos_rows.specs.PartFaults.{HasOtherKind, GetsStuck, IsFaulty}
use Rattle.nomos_rows.specs.declared.first_fault.DeclarationFault.{DeclarationFault}
use Rattle.nomos_rows.specs.declared.first_fault.DeclarationFault.TheVariants as fault

-- the function's body does not have its kind
pub record FunctionFault (lists : ProgramLists) (k at : ℕ) (f : DeclarationFault) : Type 0 where
  pub function : FnDecl
  pub declared : slice_get lists.fns k ≡ Some function
  pub offset : function.at ≡ at
  pub other : ¬ (HasKind lists function.pars function.body function.gives)
  pub is : f ≡ fault.OtherKind

-- it has its kind
abbrev pub FunctionFine : ProgramLists → ℕ → Type 0
FunctionFine lists k =
    (f : FnDecl) → slice_get lists.fns k ≡ Some f → HasKind lists f.pars f.body f.gives

-- what is found of one function
abbrev pub TellsFunction : ProgramLists → FnDecl → Option (ℕ × DeclarationFault) → Type 0
TellsFunction lists f None = HasKind lists f.pars f.body f.gives
TellsFunction lists f (Some a) =
    (¬ (HasKind lists f.pars f.body f.gives)) × (a.0 ≡ f.at) × (a.1 ≡ fault.OtherKind)

-- an instruction of the process is stuck
pub record ProcessFault (lists : ProgramLists) (k at : ℕ) (f : DeclarationFault) : Type 0 where
  pub declaration : ProcDecl
  pub declared : slice_get lists.procs k ≡ Some declaration
  pub form : CodeForm
  pub stuck : IsStuckAt lists declaration at form
  pub is : f ≡ fault.Stuck form

-- the process has a skeleton
abbrev pub ProcessFine : ProgramLists → ℕ → Type 0
ProcessFine lists k = (d : ProcDecl) → slice_get lists.procs k ≡ Some d → HasSkeleton lists d

-- the fault is one of a function or of a process
abbrev pub IsFaultAt : ProgramLists → ℕ → DeclarationFault → Type 0
IsFaultAt lists at fault.OtherKind = HasOtherKind lists at
IsFaultAt lists at (fault.Stuck form) = GetsStuck lists at form

-- it is the first of them
abbrev pub IsFirstOfAll : ProgramLists → ℕ × DeclarationFault → Type 0
IsFirstOfAll lists a = IsFaultAt lists a.0 a.1 × NoneBefore (IsFaulty lists) a.0

-- the parts of a program but for its shared types have skeletons
pub record DeclarationsFine (lists : ProgramLists) : Type 0 where
  pub functions : FunctionsAreTyped lists
  pub processes : (k : ℕ) (d : ProcDecl) → slice_get lists.procs k ≡ Some d → HasSkeleton lists d

-- what is found of all functions and processes
abbrev pub DeclarationsTell : ProgramLists → Option (ℕ × DeclarationFault) → Type 0
DeclarationsTell lists None = DeclarationsFine lists
DeclarationsTell lists (Some a) = IsFirstOfAll lists a
