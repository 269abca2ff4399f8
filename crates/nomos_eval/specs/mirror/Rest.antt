-- A mirror of the code: what becomes of an evaluation by what is left to do.
use Rattle.std.specs.Prelude.{ℕ, zero, suc, ◌+◌, ◌<◌, List, [], ◌∷◌, ◌++◌, map, slice_get, slice_index_or}
use Rattle.nomos_ir.specs.declared.ids.TermId.{TermId}
use Rattle.nomos_ir.specs.declared.lists.ProgramLists.{ProgramLists}
use Rattle.nomos_ir.specs.Evaluation.{Environment, Counted, Evaluator, ends, go_on, nought, on_numbers, put_before, both, either, as_truth, opposite, chosen, taken_apart, bind_parts, body_evaluation}
use Rattle.nomos_ir.specs.Value.{Value}
use Rattle.nomos_eval.specs.declared.pending.Pending.{Pending}
use Rattle.nomos_eval.specs.declared.pending.Pending.TheVariants as act
use Rattle.nomos_eval.specs.declared.pending.TermScope.{TermScope}
use Rattle.nomos_eval.specs.mirror.Operation.{operation}

-- the topmost value, 0 where there is none
abbrev pub top : List Value → Value
top [] = nought
top (v ∷ values) = v

-- the values below the topmost one
abbrev pub below : List Value → List Value
below [] = []
below (v ∷ values) = values

-- so many topmost values, the topmost one last, and the values below them
abbrev pub arguments_on : ℕ → List Value → List Value
arguments_on zero values = []
arguments_on (suc k) values = arguments_on k (below values) ++ top values ∷ []

abbrev pub below_by : ℕ → List Value → List Value
below_by zero values = values
below_by (suc k) values = below_by k (below values)

-- the variables that were bound at each place, and those around the term
pub record Variables : Type 0 where
  pub bound : List Environment
  pub around : Environment

-- a function does not see the variables around the term that calls it
abbrev pub seen_in : ℕ → Environment → Environment
seen_in zero env = env
seen_in (suc calls) env = []

-- the variables in a scope
abbrev pub variables_at : Variables → TermScope → Environment
variables_at scopes s = slice_index_or scopes.bound s.variables [] ++ seen_in s.calls scopes.around

module _ (from : Evaluator) (lists : ProgramLists) (scopes : Variables) where
  -- a term in its scope
  abbrev pub follow : TermScope → TermId → Counted
  follow s t = from s.calls (variables_at scopes s) t

  -- what is left leads to this
  abbrev pub rest : List Pending → List Value → Counted
  rest [] values n = ends (top values) n
  rest (act.Term s t ∷ todo) values n = go_on (follow s t n) (λ v. rest todo (v ∷ values))
  rest (act.Numbers operator ∷ todo) values n =
      go_on (on_numbers (operation operator) (top (below values)) (top values) n)
      (λ v. rest todo (v ∷ below (below values)))
  rest (act.PutBefore ∷ todo) values n =
      go_on (put_before (top (below values)) (top values) n) (λ v. rest todo (v ∷ below (below values)))
  rest (act.Both s t ∷ todo) values n = go_on (both (top values) (follow s t) n) (λ v. rest todo (v ∷ below values))
  rest (act.Either s t ∷ todo) values n = go_on (either (top values) (follow s t) n) (λ v. rest todo (v ∷ below values))
  rest (act.Truth ∷ todo) values n = rest todo (as_truth (top values) ∷ below values) n
  rest (act.Not ∷ todo) values n = rest todo (opposite (top values) ∷ below values) n
  rest (act.Choose s a b ∷ todo) values n =
      go_on (chosen (top values) (follow s a) (follow s b) n) (λ v. rest todo (v ∷ below values))
  rest (act.Open s c ∷ todo) values n =
      go_on (taken_apart (top values) (follow s c.empty)
      (λ x xs. from s.calls (bind_parts c.head c.tail x xs (variables_at scopes s)) c.full)
      (follow s c.full) n) (λ v. rest todo (v ∷ below values))
  rest (act.Enter calls f count ∷ todo) values n =
      go_on (body_evaluation from calls (slice_get lists.fns f.0) (arguments_on count values) n)
      (λ v. rest todo (v ∷ below_by count values))

-- the terms of arguments, one after another
abbrev pub argument_acts : TermScope → List TermId → List Pending
argument_acts s values = map (λ t. act.Term s t) values

-- what is left is in a scope that is there
abbrev pub ScopeIn : ℕ → Pending → Type 0
ScopeIn count (act.Term s t) = s.variables < count
ScopeIn count (act.Numbers operator) = Unit {0}
ScopeIn count act.PutBefore = Unit {0}
ScopeIn count (act.Both s t) = s.variables < count
ScopeIn count (act.Either s t) = s.variables < count
ScopeIn count act.Truth = Unit {0}
ScopeIn count act.Not = Unit {0}
ScopeIn count (act.Choose s a b) = s.variables < count
ScopeIn count (act.Open s c) = s.variables < count
ScopeIn count (act.Enter calls f arguments) = Unit {0}

-- how much follows, beside terms
abbrev pub act_work : Pending → ℕ
act_work (act.Term s t) = 0
act_work (act.Numbers operator) = 1
act_work act.PutBefore = 1
act_work (act.Both s t) = 2
act_work (act.Either s t) = 2
act_work act.Truth = 1
act_work act.Not = 1
act_work (act.Choose s a b) = 1
act_work (act.Open s c) = 1
act_work (act.Enter calls f arguments) = 1

abbrev pub work : List Pending → ℕ
work [] = 0
work (a ∷ todo) = act_work a + work todo
