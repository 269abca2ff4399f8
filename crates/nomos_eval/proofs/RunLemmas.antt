-- The steps of an evaluation, one after another.
use Rattle.std.proofs.Common.{◌≡◌, ◌+◌, ◌<◌, ◌≤◌, ℕ, true, false, nat_lt, slice_get, Ok, Err, Result, sym, ap, ◌∙◌, subst, arith, tests, rules}
use Rattle.nomos_ir.specs.declared.fault.Fault.TheVariants as fault
use Rattle.nomos_ir.specs.declared.ids.TermId.{TermId}
use Rattle.nomos_ir.specs.declared.lists.ProgramLists.{ProgramLists}
use Rattle.nomos_ir.specs.Evaluation.{faults, go_on, entered, counted, max_nodes}
use Rattle.nomos_ir.proofs.EvaluationLaws.{evaluation_from, evaluation-step}
use Rattle.nomos_eval.specs.declared.pending.Pending.{Pending}
use Rattle.nomos_eval.specs.declared.pending.Pending.TheVariants as act
use Rattle.nomos_eval.specs.declared.pending.TermScope.{TermScope}
use Rattle.nomos_eval.specs.declared.evaluator.Evaluator.{Evaluator}
use Rattle.nomos_ir.specs.declared.fault.Fault.{Fault}
use Rattle.nomos_ir.specs.declared.or_no_memory.OrNoMemory.{OrNoMemory}
use Rattle.nomos_ir.specs.declared.or_no_memory.OrNoMemory.TheVariants as stop
use Rattle.nomos_eval.specs.mirror.Evaluator.{scopes_held, left_of, left_with, IsDoneFor, Does, DoesFor, StopsFor}
use Rattle.nomos_eval.specs.mirror.Rest.{variables_at}
use Rattle.nomos_eval.specs.mirror.EvalRun.{IsEnteredAt, IsStep, StepStops}

-- what holds of every program holds of one
pub for-one : (program : ProgramLists) (a : Pending) (old new : Evaluator) (r : Result (Unit {0}) (OrNoMemory Fault))
    → Does a old new r → DoesFor program a old new r
for-one program a old new (Ok done) does = record { sound = does.sound; same = does.same program; less = does.less }
for-one program a old new (Err (stop.Answer f)) does = does program
for-one program a old new (Err stop.NoMemory) does = tt

pub for-act : (program : ProgramLists) (a b : Pending) (old new : Evaluator) (r : Result (Unit {0}) (OrNoMemory Fault))
    → a ≡ b → Does b old new r → DoesFor program a old new r
for-act program a b old new r same does =
    let P : Pending → Type 0 = λ x. DoesFor program x old new r in subst P (sym same) (for-one program b old new r does)

-- a term is a step
pub step-term : (program : ProgramLists) (a : Pending) (scope : TermScope) (t : TermId) (old new : Evaluator) (n : ℕ)
    → a ≡ act.Term scope t → n < max_nodes → IsEnteredAt program scope t old new → IsStep program a old n new (n + 1)
step-term program a scope t old new n same few is =
    let on : nat_lt n max_nodes ≡ true = search (tests, rules) in
    let P : Pending → Type 0 = λ x. IsStep program x old n new (n + 1) in
    subst
    P
    (sym same)
    (record {
      sound = is.sound;
      same =
          ap (λ e. go_on e (left_with program old))
          (evaluation-step program scope.calls (variables_at (scopes_held old) scope) t n)
          ∙ ap (λ b. go_on (counted b (entered program (evaluation_from program) scope.calls
          (variables_at (scopes_held old) scope) (slice_get program.terms t.0)) n) (left_with program old)) on
          ∙ is.same (n + 1);
      few = omega arith;
      less = omega (arith, is.little);
    })

pub step-last : (program : ProgramLists) (a : Pending) (scope : TermScope) (t : TermId) (old : Evaluator) (n : ℕ)
    → a ≡ act.Term scope t → max_nodes ≤ n → left_of program a old n ≡ faults fault.TermSteps
step-last program a scope t old n same past =
    let off : nat_lt n max_nodes ≡ false = search (tests, rules) in
    ap (λ x. left_of program x old n) same
    ∙ ap (λ e. go_on e (left_with program old))
    (evaluation-step program scope.calls (variables_at (scopes_held old) scope) t n)
    ∙ ap (λ b. go_on (counted b (entered program (evaluation_from program) scope.calls
    (variables_at (scopes_held old) scope) (slice_get program.terms t.0)) n) (left_with program old)) off

-- anything else is a step
pub step-done : (program : ProgramLists) (a : Pending) (old new : Evaluator) (n : ℕ) → n ≤ max_nodes
    → IsDoneFor program a old new → IsStep program a old n new n
step-done program a old new n few done =
    record { sound = done.sound; same = done.same n; few = few; less = omega (arith, done.less) }

pub step-stops : (program : ProgramLists) (a : Pending) (old : Evaluator) (n : ℕ) (why : OrNoMemory Fault)
    → StopsFor program a old why → StepStops program a old n why
step-stops program a old n (stop.Answer f) stops = stops n
step-stops program a old n stop.NoMemory stops = tt
