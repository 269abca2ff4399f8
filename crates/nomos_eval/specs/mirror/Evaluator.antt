-- A mirror of the code: what becomes of an evaluation by its state.
use Rattle.std.specs.Prelude.{◌≡◌, ◌<◌, ◌≤◌, ◌+◌, ℕ, zero, suc, List, [], ◌∷◌, ◌++◌, length, map, pos, Option, Some, None, slice_get, slice_index_or, unwrap_or}
use Rattle.std.specs.declared.result.Result.{Result}
use Rattle.std.specs.declared.result.Result.TheVariants.{Ok, Err}
use Rattle.std.specs.List.{AllByRecursion}
use Rattle.nomos_ir.specs.Bindings.{bound_to}
use Rattle.nomos_ir.specs.declared.ids.VarId.{VarId}
use Rattle.nomos_ir.specs.declared.kind.Kind.{Kind}
use Rattle.nomos_ir.specs.declared.lists.ProgramLists.{ProgramLists}
use Rattle.nomos_ir.specs.declared.term_node.TermNode.{TermNode}
use Rattle.nomos_ir.specs.Evaluation.{Environment, Counted, ends, faults, go_on, nought, on_numbers, node_evaluation}
use Rattle.nomos_ir.specs.Value.{Value, ValueList}
use Rattle.nomos_ir.proofs.EvaluationLaws.{evaluation_from}
use Rattle.nomos_eval.specs.declared.pending.Pending.{Pending}
use Rattle.nomos_eval.specs.declared.pending.TermScope.{TermScope}
use Rattle.nomos_eval.specs.declared.datum.Datum.{Datum}
use Rattle.nomos_eval.specs.declared.datum.Datum.TheVariants as datum
use Rattle.nomos_eval.specs.declared.evaluator.Evaluator.{Evaluator}
use Rattle.nomos_eval.specs.declared.numbers.Yield.{Yield}
use Rattle.nomos_eval.specs.declared.numbers.Yield.TheVariants as give
use Rattle.nomos_eval.specs.declared.numbers.NumberOperator.{NumberOperator}
use Rattle.nomos_ir.specs.declared.fault.Fault.{Fault}
use Rattle.nomos_ir.specs.declared.or_no_memory.OrNoMemory.{OrNoMemory}
use Rattle.nomos_ir.specs.declared.or_no_memory.OrNoMemory.TheVariants as stop
use Rattle.nomos_eval.specs.mirror.Operation.{operation}
use Rattle.nomos_eval.specs.mirror.Rest.{rest, Variables, variables_at, act_work, work, ScopeIn}
use Rattle.nomos_eval.specs.declared.around.Around.{Around}
use Rattle.nomos_eval.specs.mirror.Ascending.{Rises}
use Rattle.nomos_eval.specs.mirror.EvalTable.{datum_value, reach}

-- variables with their values
abbrev pub held : List ValueList → List (VarId × Datum) → Environment
held lists scope = map (λ b. (b.0, datum_value lists b.1)) scope

abbrev pub scopes_held : Evaluator → Variables
scopes_held m = record { bound = map (held m.lists) m.scopes; around = m.around.env.now }

abbrev pub values_found : Evaluator → List Value
values_found m = map (datum_value m.lists) m.values

-- what is left leads to this
abbrev pub left : ProgramLists → Evaluator → Counted
left program m = rest (evaluation_from program) program (scopes_held m) m.todo (values_found m)

-- what is left where one more value was found
abbrev pub left_with : ProgramLists → Evaluator → Value → Counted
left_with program m v = rest (evaluation_from program) program (scopes_held m) m.todo (v ∷ values_found m)

-- all that is named is there
pub record IsSound (m : Evaluator) : Type 0 where
  pub todo : AllByRecursion (ScopeIn (length m.scopes)) m.todo
  pub values : AllByRecursion (λ d. reach d ≤ length m.lists) m.values
  pub scopes : AllByRecursion (AllByRecursion (λ b. reach b.1 ≤ length m.lists)) m.scopes
  pub rises : Rises m.around.env.now m.around.known

-- a variable was looked up in a scope
pub record IsFound (scopes : List (List (VarId × Datum))) (scope : TermScope) (v : VarId) (old : Around)
    (before : List ValueList) (new : Around) (after : List ValueList) (d : Datum) : Type 0 where
  pub env : new.env.now ≡ old.env.now
  pub grown : (more : List ValueList) × (after ≡ before ++ more)
  pub rises : Rises new.env.now new.known
  pub there : reach d ≤ length after
  pub same : datum_value after d ≡ unwrap_or (bound_to v.0
      (variables_at (record { bound = map (held before) scopes; around = old.env.now }) scope)) nought

-- a node was entered
pub record IsEntered (scope : TermScope) (node : TermNode) (old new : Evaluator) : Type 0 where
  pub sound : IsSound new
  pub same : (program : ProgramLists) (n : ℕ)
      → go_on (node_evaluation program (evaluation_from program) scope.calls
      (variables_at (scopes_held old) scope) node n) (left_with program old) ≡ left program new n
  pub little : work new.todo ≤ 2 + work old.todo

-- what an act leads to, with what is left after it
abbrev pub left_of : ProgramLists → Pending → Evaluator → Counted
left_of program a m = rest (evaluation_from program) program (scopes_held m) (a ∷ m.todo) (values_found m)

-- an act was done
pub record IsDone (a : Pending) (old new : Evaluator) : Type 0 where
  pub sound : IsSound new
  pub same : (program : ProgramLists) (n : ℕ) → left_of program a old n ≡ left program new n
  pub less : work new.todo < act_work a + work old.todo

-- an act leads to a fault
abbrev pub Stops : Pending → Evaluator → OrNoMemory Fault → Type 0
Stops a old (stop.Answer f) = (program : ProgramLists) (n : ℕ) → left_of program a old n ≡ faults f
Stops a old stop.NoMemory = Unit {0}

-- an act was done, or it leads to a fault
abbrev pub Does : Pending → Evaluator → Evaluator → Result (Unit {0}) (OrNoMemory Fault) → Type 0
Does a old new (Ok done) = IsDone a old new
Does a old new (Err why) = Stops a old why

-- the topmost datum, 0 where there is none
abbrev pub top_datum : List Datum → Datum
top_datum [] = datum.Int (pos 0)
top_datum (d ∷ ds) = d

abbrev pub below_top : List Datum → List Datum
below_top [] = []
below_top (d ∷ ds) = ds

-- what an operator gave
abbrev pub IsGiven : Yield → Result Datum (OrNoMemory Fault) → Type 0
IsGiven (give.Int z) r = r ≡ Ok (datum.Int z)
IsGiven (give.Bool b) r = r ≡ Ok (datum.Bool b)
IsGiven (give.Fault f) r = r ≡ Err (stop.Answer f)

-- what an operator gives of two values
abbrev pub Operated : NumberOperator → Datum → Datum → Result Datum (OrNoMemory Fault) → Type 0
Operated operator x y (Ok d) =
    ((lists : List ValueList) (n : ℕ) → on_numbers (operation operator) (datum_value lists x) (datum_value lists y) n
    ≡ ends (datum_value lists d) n) × (reach d ≡ 0)
Operated operator x y (Err (stop.Answer f)) =
    (lists : List ValueList) (n : ℕ) → on_numbers (operation operator) (datum_value lists x) (datum_value lists y) n
    ≡ faults f
Operated operator x y (Err stop.NoMemory) = ⊥

-- the same of one program
pub record IsDoneFor (program : ProgramLists) (a : Pending) (old new : Evaluator) : Type 0 where
  pub sound : IsSound new
  pub same : (n : ℕ) → left_of program a old n ≡ left program new n
  pub less : work new.todo < act_work a + work old.todo

abbrev pub StopsFor : ProgramLists → Pending → Evaluator → OrNoMemory Fault → Type 0
StopsFor program a old (stop.Answer f) = (n : ℕ) → left_of program a old n ≡ faults f
StopsFor program a old stop.NoMemory = Unit {0}

abbrev pub DoesFor : ProgramLists → Pending → Evaluator → Evaluator → Result (Unit {0}) (OrNoMemory Fault) → Type 0
DoesFor program a old new (Ok done) = IsDoneFor program a old new
DoesFor program a old new (Err why) = StopsFor program a old why

-- so many topmost data, the topmost one last, and the data below them
abbrev pub arguments_at : ℕ → List Datum → List Datum
arguments_at zero ds = []
arguments_at (suc k) ds = arguments_at k (below_top ds) ++ top_datum ds ∷ []

abbrev pub below_at : ℕ → List Datum → List Datum
below_at zero ds = ds
below_at (suc k) ds = below_at k (below_top ds)

-- one more parameter with its argument, if there is such a parameter
abbrev pub with_parameter : Option VarId → Datum → List (VarId × Datum) → List (VarId × Datum)
with_parameter (Some v) d env = (v, d) ∷ env
with_parameter None d env = env

-- so many topmost data are bound to parameters, the last one first
abbrev pub bound_on : ℕ → List VarId → List Datum → List (VarId × Datum) → List (VarId × Datum)
bound_on zero names ds env = env
bound_on (suc k) names ds env = bound_on k names (below_top ds) (with_parameter (slice_get names k) (top_datum ds) env)

-- how far arguments are bound
pub record IsBinding (names : List VarId) (count : ℕ) (first : List Datum) (before : List (List (VarId × Datum)))
    (left : ℕ) (ds : List Datum) (scopes : List (List (VarId × Datum))) (place : ℕ) : Type 0 where
  pub grown : (more : List (List (VarId × Datum))) × (scopes ≡ before ++ more)
  pub there : place < length scopes
  pub bound : bound_on left names ds (slice_index_or scopes place []) ≡ bound_on count names first []
  pub under : below_at left ds ≡ below_at count first
  pub sound : (n : ℕ) → AllByRecursion (λ d. reach d ≤ n) first
      → AllByRecursion (AllByRecursion (λ b. reach b.1 ≤ n)) before
      → AllByRecursion (λ d. reach d ≤ n) ds × AllByRecursion (AllByRecursion (λ b. reach b.1 ≤ n)) scopes

-- so many topmost values were bound to parameters, and nothing else has changed
abbrev pub IsBound : List (VarId × Kind) → ℕ → Evaluator → Evaluator → ℕ → Type 0
IsBound pars count old new place =
    IsBinding (map (λ par. par.0) pars) count old.values old.scopes 0 new.values new.scopes place
    × (new.todo ≡ old.todo) × (new.lists ≡ old.lists) × (new.around ≡ old.around)
