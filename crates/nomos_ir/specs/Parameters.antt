-- The parameters of a declaration.
use Rattle.std.specs.Prelude.{◌≡◌, ◌↔◌, ℕ, List, [], ◌∷◌, ◌++◌, map, All, Option, Some, None, IsSome}
use Rattle.nomos_ir.specs.declared.ids.VarId.{VarId}
use Rattle.nomos_ir.specs.declared.declaration.FnDecl.{FnDecl}
use Rattle.nomos_ir.specs.declared.declaration.ProcDecl.{ProcDecl}
use Rattle.nomos_ir.specs.declared.lists.ProgramLists.{ProgramLists}
use Rattle.nomos_ir.specs.declared.mode.Mode.TheVariants as mode

-- the variables of a function's parameters, in order of text
abbrev pub fn_parameters : FnDecl → List ℕ
fn_parameters f = map (λ par. par.0.0) f.pars

-- the variable that stands for the payer of a transaction
abbrev pub me_parameter : Option VarId → List ℕ
me_parameter (Some v) = v.0 ∷ []
me_parameter None = []

-- the variables of a process's parameters: the payer, the values and lists, the channels
abbrev pub proc_parameters : ProcDecl → List ℕ
proc_parameters d = me_parameter d.me ++ map (λ par. par.var.0) d.values ++ map (λ par. par.0.0) d.channels

-- exactly a transaction has a variable that stands for its payer
abbrev pub TransactionsHavePayers : ProgramLists → Type 0
TransactionsHavePayers lists = All (λ d. IsSome d.me ↔ (d.mode ≡ mode.T)) lists.procs
