-- A mirror of the code: the steps of an evaluation, one after another.
use Rattle.std.specs.Prelude.{◌≡◌, ◌<◌, ◌≤◌, ◌+◌, ◌-◌, ◌*◌, ℕ, length, slice_get}
use Rattle.std.specs.declared.result.Result.{Result}
use Rattle.std.specs.declared.result.Result.TheVariants.{Ok, Err}
use Rattle.nomos_ir.specs.declared.ids.TermId.{TermId}
use Rattle.nomos_ir.specs.declared.lists.ProgramLists.{ProgramLists}
use Rattle.nomos_ir.specs.Evaluation.{ends, faults, go_on, entered, max_nodes}
use Rattle.nomos_ir.proofs.EvaluationLaws.{evaluation_from}
use Rattle.nomos_eval.specs.declared.pending.Pending.{Pending}
use Rattle.nomos_eval.specs.declared.pending.Pending.TheVariants as act
use Rattle.nomos_eval.specs.declared.pending.TermScope.{TermScope}
use Rattle.nomos_eval.specs.declared.datum.Datum.{Datum}
use Rattle.nomos_eval.specs.declared.evaluator.Evaluator.{Evaluator}
use Rattle.nomos_ir.specs.declared.fault.Fault.{Fault}
use Rattle.nomos_ir.specs.declared.or_no_memory.OrNoMemory.{OrNoMemory}
use Rattle.nomos_ir.specs.declared.or_no_memory.OrNoMemory.TheVariants as stop
use Rattle.nomos_eval.specs.mirror.Evaluator.{IsSound, left, left_of, left_with, scopes_held}
use Rattle.nomos_eval.specs.mirror.Rest.{variables_at, act_work, work}
use Rattle.nomos_eval.specs.mirror.EvalTable.{datum_value, reach}

-- something other than to enter a term
abbrev pub IsOther : Pending → Type 0
IsOther (act.Term s t) = ⊥
IsOther (act.Numbers operator) = Unit {0}
IsOther act.PutBefore = Unit {0}
IsOther (act.Both s t) = Unit {0}
IsOther (act.Either s t) = Unit {0}
IsOther act.Truth = Unit {0}
IsOther act.Not = Unit {0}
IsOther (act.Choose s a b) = Unit {0}
IsOther (act.Open s c) = Unit {0}
IsOther (act.Enter calls f count) = Unit {0}

-- a term was entered
pub record IsEnteredAt (program : ProgramLists) (scope : TermScope) (t : TermId) (old new : Evaluator) : Type 0 where
  pub sound : IsSound new
  pub same : (n : ℕ) → go_on (entered program (evaluation_from program) scope.calls
      (variables_at (scopes_held old) scope) (slice_get program.terms t.0) n) (left_with program old)
      ≡ left program new n
  pub little : work new.todo ≤ 2 + work old.todo

-- one step
pub record IsStep (program : ProgramLists) (a : Pending) (old : Evaluator) (n : ℕ) (new : Evaluator) (m : ℕ) : Type
    0 where
  pub sound : IsSound new
  pub same : left_of program a old n ≡ left program new m
  pub few : m ≤ max_nodes
  pub less : 3 * (max_nodes - m) + work new.todo < 3 * (max_nodes - n) + (act_work a + work old.todo)

abbrev pub StepStops : ProgramLists → Pending → Evaluator → ℕ → OrNoMemory Fault → Type 0
StepStops program a old n (stop.Answer f) = left_of program a old n ≡ faults f
StepStops program a old n stop.NoMemory = Unit {0}

abbrev pub Steps : ProgramLists → Pending → Evaluator → ℕ → Evaluator → Result ℕ (OrNoMemory Fault) → Type 0
Steps program a old n new (Ok m) = IsStep program a old n new m
Steps program a old n new (Err why) = StepStops program a old n why

-- all steps
abbrev pub RunStops : ProgramLists → Evaluator → OrNoMemory Fault → Type 0
RunStops program old (stop.Answer f) = left program old 0 ≡ faults f
RunStops program old stop.NoMemory = Unit {0}

abbrev pub Ran : ProgramLists → Evaluator → Evaluator → Result Datum (OrNoMemory Fault) → Type 0
Ran program old new (Ok d) =
    (m : ℕ) × (left program old 0 ≡ ends (datum_value new.lists d) m) × (reach d ≤ length new.lists)
Ran program old new (Err why) = RunStops program old why
