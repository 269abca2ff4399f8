-- The goal of a program: what its transactions declare, all together.
use Rattle.std.specs.Prelude.{ℕ, Bool, true, false, List, [], ◌∷◌, sum_by, if◌then◌else◌}
use Rattle.nomos_check.specs.Account.{Account, gains, form_of, no_account}
use Rattle.nomos_forms.specs.declared.form.Form.{Form}
use Rattle.nomos_ir.specs.Amounts.{star_count}
use Rattle.nomos_ir.specs.declared.declaration.ProcDecl.{ProcDecl}
use Rattle.nomos_ir.specs.declared.lists.ProgramLists.{ProgramLists}
use Rattle.nomos_ir.specs.declared.mode.Mode.{Mode}
use Rattle.nomos_ir.specs.declared.mode.Mode.TheVariants as mode
use Rattle.nomos_types.specs.Amount.{Annotations, dths}

abbrev pub is_transaction : Mode → Bool
is_transaction mode.T = true
is_transaction _ = false

-- what a declaration declares where it is a transaction, in Dths
abbrev pub declared_in : Annotations → ProcDecl → ℕ
declared_in x d = if is_transaction d.mode then dths x d.amount else 0

-- what the transactions of a program declare under amounts, in Dths
abbrev pub all_declared : Annotations → ProgramLists → ℕ
all_declared x lists = sum_by (declared_in x) lists.procs

-- an account gains what a declaration declares, where it is a transaction
abbrev pub gains_declared : ProcDecl → Account → Account
gains_declared d a = if is_transaction d.mode then gains d.amount a else a

-- it gains this of one declaration after the other
abbrev pub gains_all : List ProcDecl → Account → Account
gains_all [] a = a
gains_all (d ∷ ds) a = gains_all ds (gains_declared d a)

-- the goal: what the transactions declare, as a form over the stars of the program
abbrev pub goal_of : ProgramLists → Form
goal_of lists = form_of (star_count lists) (gains_all lists.procs no_account)
