-- The names and labels of a program.
use Rattle.std.specs.Prelude.{◌≢◌, ℕ, List, All, AllPairs}
use Rattle.nomos_ir.specs.declared.lists.ProgramLists.{ProgramLists}
use Rattle.nomos_ir.specs.Name.{IsShortName}
use Rattle.nomos_ir.specs.TypeParts.{type_labels}
use Rattle.nomos_ir.specs.CodeParts.{code_labels}
use Rattle.nomos_ir.specs.Parameters.{fn_parameters, proc_parameters}

-- all names and label texts are names of at most 64 bytes
pub record NamesAreShort (lists : ProgramLists) : Type 0 where
  pub defs : All (λ d. IsShortName d.name) lists.defs
  pub fns : All (λ f. IsShortName f.name) lists.fns
  pub procs : All (λ d. IsShortName d.name) lists.procs
  pub labels : All IsShortName lists.labels

-- the names of one name space differ, and so do the label texts
pub record NamesDiffer (lists : ProgramLists) : Type 0 where
  pub defs : AllPairs (λ d e. d.name ≢ e.name) lists.defs
  pub fns : AllPairs (λ f g. f.name ≢ g.name) lists.fns
  pub procs : AllPairs (λ d e. d.name ≢ e.name) lists.procs
  pub labels : AllPairs (λ k l. k ≢ l) lists.labels

-- no number occurs twice
abbrev pub AllDiffer : List ℕ → Type 0
AllDiffer numbers = AllPairs (λ k l. k ≢ l) numbers

-- the labels of one choice differ, and so do those of one `case`
pub record LabelsDiffer (lists : ProgramLists) : Type 0 where
  pub choices : All (λ t. AllDiffer (type_labels t.node)) lists.types
  pub cases : All (λ node. AllDiffer (code_labels node)) lists.code

-- the parameters of one function or process differ
pub record ParametersDiffer (lists : ProgramLists) : Type 0 where
  pub fns : All (λ f. AllDiffer (fn_parameters f)) lists.fns
  pub procs : All (λ d. AllDiffer (proc_parameters d)) lists.procs
