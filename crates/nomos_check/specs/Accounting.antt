-- How an instruction changes the account of a process: one line for each that gains, spends or uses up a list.
use Rattle.std.specs.Prelude.{List, [], ◌∷◌, map, Option, Some, None, slice_get}
use Rattle.nomos_ir.specs.declared.amount.Amount.{Amount}
use Rattle.nomos_ir.specs.declared.code_node.CodeNode.{CodeNode}
use Rattle.nomos_ir.specs.declared.code_node.CodeNode.TheVariants as code
use Rattle.nomos_ir.specs.declared.code_node.ValueArg.{ValueArg}
use Rattle.nomos_ir.specs.declared.code_node.ValueArg.TheVariants as arg
use Rattle.nomos_ir.specs.declared.declaration.ProcDecl.{ProcDecl}
use Rattle.nomos_ir.specs.declared.ids.VarId.{VarId}
use Rattle.nomos_ir.specs.declared.lists.ProgramLists.{ProgramLists}
use Rattle.nomos_ir.specs.Bindings.{bound_to, bind, unbind}
use Rattle.nomos_check.specs.Account.{Account, gains, spends, with_lists}

-- what the lists carry without those that are passed on
abbrev pub without_passed : List ValueArg → List (VarId × Amount) → List (VarId × Amount)
without_passed [] lists = lists
without_passed (arg.Term e ∷ args) lists = without_passed args lists
without_passed (arg.List w ∷ args) lists = without_passed args (unbind w.0 lists)

-- what a declaration needs is spent
abbrev pub spends_for : Option ProcDecl → Account → Account
spends_for (Some d) a = spends d.amount a
spends_for None a = a

-- An element is put before a list, and the list has another name: the element takes the list's amount along.
abbrev pub grows_list : Option Amount → VarId → VarId → Account → List Account
grows_list (Some r) v w a = spends r (with_lists a (bind v r (unbind w.0 a.lists))) ∷ []
grows_list None v w a = []

-- A list is taken apart: it is empty, or its head frees its amount and its tail carries it on.
abbrev pub parts_list : Option Amount → VarId → VarId → Account → List Account
parts_list (Some r) w tail a =
    with_lists a (unbind w.0 a.lists) ∷ gains r (with_lists a (bind tail r (unbind w.0 a.lists))) ∷ []
parts_list None w tail a = []

-- the accounts with which an instruction goes on, in the order of the judgements with which its rule goes on
abbrev pub accounts_after : ProgramLists → CodeNode → Account → List Account
accounts_after lists (code.Case at c arms) a = map (λ arm. a) arms
accounts_after lists (code.Pay at c r next) a = spends r a ∷ []
accounts_after lists (code.Get at c r next) a = gains r a ∷ []
accounts_after lists (code.Work at r next) a = spends r a ∷ []
accounts_after lists (code.Spawn at v f args next) a =
    spends_for (slice_get lists.procs f.0) (with_lists a (without_passed args.values a.lists)) ∷ []
accounts_after lists (code.If at e then_next else_next) a = a ∷ a ∷ []
accounts_after lists (code.Close at) a = []
accounts_after lists (code.Fwd at v) a = []
accounts_after lists (code.Call at f args) a = []
accounts_after lists (code.Empty at v r kind next) a = with_lists a (bind v r a.lists) ∷ []
accounts_after lists (code.Add at v e w next) a = grows_list (bound_to w.0 a.lists) v w a
accounts_after lists (code.Match at w empty_next head tail full_next) a = parts_list (bound_to w.0 a.lists) w tail a
accounts_after lists n a = a ∷ []
