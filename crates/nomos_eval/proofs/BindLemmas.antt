-- Arguments are bound to parameters, the last one first.
use Rattle.std.proofs.Common.{◌≡◌, ◌+◌, ◌-◌, ◌<◌, ◌≤◌, ℕ, zero, suc, pos, true, cond, nat_lt, List, [], ◌∷◌, ◌++◌, length, map, get_or, drop, Some, None, slice_get, refl, sym, ap, ◌∙◌, subst, arith, add-one, append_assoc, length-append, tests, rules}
use Rattle.std.specs.List.{AllByRecursion, zip}
use Rattle.std.proofs.Math.Seq.{get_or-append_seam}
use Rattle.std.proofs.lemmas.List.{map-append, length-map, append-nil}
use Rattle.nomos_ir.specs.declared.declaration.FnDecl.{FnDecl}
use Rattle.nomos_ir.specs.declared.fault.Fault.TheVariants as fault
use Rattle.nomos_ir.specs.declared.ids.FnId.{FnId}
use Rattle.nomos_ir.specs.declared.ids.VarId.{VarId}
use Rattle.nomos_ir.specs.declared.lists.ProgramLists.{ProgramLists}
use Rattle.nomos_ir.specs.Evaluation.{faults, go_on, nought, max_calls, bind_arguments, body_evaluation}
use Rattle.nomos_ir.specs.Value.{Value, ValueList}
use Rattle.nomos_ir.proofs.EvaluationLaws.{evaluation_from}
use Rattle.nomos_eval.specs.declared.pending.Pending.{Pending}
use Rattle.nomos_eval.specs.declared.pending.Pending.TheVariants as act
use Rattle.nomos_eval.specs.declared.pending.TermScope.{TermScope}
use Rattle.nomos_eval.specs.declared.around.Around.{Around}
use Rattle.nomos_eval.specs.declared.datum.Datum.{Datum}
use Rattle.nomos_eval.specs.declared.datum.Datum.TheVariants as datum
use Rattle.nomos_eval.specs.declared.evaluator.Evaluator.{Evaluator}
use Rattle.nomos_eval.specs.mirror.Evaluator.{held, scopes_held, values_found, IsSound, IsDoneFor, IsBinding, arguments_at, below_at, bound_on, with_parameter, top_datum, below_top}
use Rattle.nomos_eval.specs.mirror.Rest.{Variables, rest, seen_in, variables_at, top, arguments_on, below_by, ScopeIn}
use Rattle.nomos_eval.specs.mirror.EvalTable.{datum_value}
use Rattle.nomos_eval.proofs.ActLemmas.{top-found, below-found, top-in, below-in}
use Rattle.nomos_eval.proofs.OpenLemmas.{at-held, todo-higher, scopes-in}
use Rattle.nomos_eval.proofs.EvaluatorLemmas.{at-scope}
use Rattle.nomos_eval.proofs.RestLemmas.{go_on-next, rest-more}

-- one more argument
module _ (names : List VarId) (count : ℕ) (first : List Datum) (before : List (List (VarId × Datum))) (k : ℕ)
    (ds : List Datum) (scopes : List (List (VarId × Datum))) (place : ℕ)
    (binding : IsBinding names count first before (suc k) ds scopes place) where
  pub bind-none : (ds' : List Datum) → slice_get names k ≡ None → ds' ≡ below_top ds
      → IsBinding names count first before k ds' scopes place
  bind-none ds' none is =
      let P : List Datum → Type 0 = λ l. IsBinding names count first before k l scopes place in
      subst
      P
      (sym is)
      (record {
        grown = binding.grown;
        there = binding.there;
        bound =
            ap (λ o. bound_on k names (below_top ds) (with_parameter o (top_datum ds) (get_or scopes place [])))
            (sym none) ∙ binding.bound;
        under = binding.under;
        sound = λ n first_in before_in. let s = binding.sound n first_in before_in in (below-in n ds s.0, s.1);
      })

  pub bind-some : (v : VarId) (d : Datum) (ds' : List Datum) (scopes' : List (List (VarId × Datum))) (place' : ℕ)
      → slice_get names k ≡ Some v → d ≡ top_datum ds → ds' ≡ below_top ds → place' ≡ length scopes
      → scopes' ≡ scopes ++ ((v, d) ∷ get_or scopes place []) ∷ []
      → IsBinding names count first before k ds' scopes' place'
  bind-some v d ds' scopes' place' some d_is ds_is place_is added =
      let s = (v, top_datum ds) ∷ get_or scopes place [] in
      let more = scopes ++ s ∷ [] in
      let scopes_is : scopes' ≡ more = added ∙ ap (λ x. scopes ++ ((v, x) ∷ get_or scopes place []) ∷ []) d_is in
      let longer : length more ≡ length scopes + 1 = omega (arith, length-append scopes (s ∷ [])) in
      let last : get_or more (length scopes) [] ≡ s = get_or-append_seam scopes s [] [] in
      let P : List Datum → Type 0 = λ l. IsBinding names count first before k l scopes' place' in
      let Q : List (List (VarId × Datum))
      → Type 0 = λ l. IsBinding names count first before k (below_top ds) l place' in
      let R : ℕ → Type 0 = λ p. IsBinding names count first before k (below_top ds) more p in
      subst
      P
      (sym ds_is)
      (subst
      Q
      (sym scopes_is)
      (subst
      R
      (sym place_is)
      (record {
        grown = (
          binding.grown.0 ++ s ∷ [],
          ap (λ l. l ++ s ∷ []) binding.grown.1
              ∙ append_assoc before binding.grown.0 (s ∷ []),
        );
        there = omega (arith, longer);
        bound =
            ap (bound_on k names (below_top ds)) last
            ∙ ap (λ o. bound_on k names (below_top ds) (with_parameter o (top_datum ds) (get_or scopes place [])))
            (sym some)
            ∙ binding.bound;
        under = binding.under;
        sound = λ n first_in before_in.
            let both = binding.sound n first_in before_in in
            (below-in n ds both.0, scopes-in n scopes s both.1 (top-in n ds both.0, at-scope n place scopes both.1));
      })))

-- parameters with their arguments, one by one
zip-nil : (names : List VarId) → zip {X = Datum} names [] ≡ []
zip-nil [] = refl
zip-nil (w ∷ names) = refl

zip-more : (names : List VarId) (k : ℕ) (d : Datum) (others : List Datum)
    → with_parameter (slice_get names k) d (zip (drop (suc k) names) others) ≡ zip (drop k names) (d ∷ others)
zip-more [] zero d others = refl
zip-more [] (suc k) d others = refl
zip-more (w ∷ names) zero d others = refl
zip-more (w ∷ names) (suc k) d others = zip-more names k d others

bound-zip : (names : List VarId) (k : ℕ) (ds others : List Datum)
    → bound_on k names ds (zip (drop k names) others) ≡ zip names (arguments_at k ds ++ others)
bound-zip names zero ds others = refl
bound-zip names (suc k) ds others =
    ap (bound_on k names (below_top ds)) (zip-more names k (top_datum ds) others)
    ∙ bound-zip names k (below_top ds) (top_datum ds ∷ others)
    ∙ ap (zip names) (sym (append_assoc (arguments_at k (below_top ds)) (top_datum ds ∷ []) others))

-- all of them are the pairs of parameters and arguments
pub bound-whole : (names : List VarId) (k : ℕ) (ds : List Datum)
    → bound_on k names ds [] ≡ zip names (arguments_at k ds)
bound-whole names k ds =
    ap (bound_on k names ds) (sym (zip-nil (drop k names))) ∙ bound-zip names k ds []
    ∙ ap (zip names) (append-nil (arguments_at k ds))

held-zip : (lists : List ValueList) (names : List VarId) (ds : List Datum)
    → held lists (zip names ds) ≡ zip names (map (datum_value lists) ds)
held-zip lists [] ds = refl
held-zip lists (w ∷ names) [] = refl
held-zip lists (w ∷ names) (d ∷ ds) = ap (λ l. (w, datum_value lists d) ∷ l) (held-zip lists names ds)

arguments-found : (lists : List ValueList) (k : ℕ) (ds : List Datum)
    → arguments_on k (map (datum_value lists) ds) ≡ map (datum_value lists) (arguments_at k ds)
arguments-found lists zero ds = refl
arguments-found lists (suc k) ds =
    ap (λ l. arguments_on k l ++ top (map (datum_value lists) ds) ∷ []) (below-found lists ds)
    ∙ ap (λ v. arguments_on k (map (datum_value lists) (below_top ds)) ++ v ∷ []) (top-found lists ds)
    ∙ ap (λ l. l ++ datum_value lists (top_datum ds) ∷ []) (arguments-found lists k (below_top ds))
    ∙ sym (map-append (datum_value lists) (arguments_at k (below_top ds)) (top_datum ds ∷ []))

below-by-found : (lists : List ValueList) (k : ℕ) (ds : List Datum)
    → below_by k (map (datum_value lists) ds) ≡ map (datum_value lists) (below_at k ds)
below-by-found lists zero ds = refl
below-by-found lists (suc k) ds = ap (below_by k) (below-found lists ds) ∙ below-by-found lists k (below_top ds)

module _ (program : ProgramLists) (calls : ℕ) (f : FnId) (count : ℕ) (old : Evaluator) (names : List VarId)
    (ds : List Datum) (scopes : List (List (VarId × Datum))) (place : ℕ) (sound : IsSound old)
    (binding : IsBinding names count old.values old.scopes 0 ds scopes place) where
  grown_is : map (held old.lists) scopes
      ≡ map (held old.lists) old.scopes ++ map (held old.lists) binding.grown.0
  grown_is = ap (map (held old.lists)) binding.grown.1 ∙ map-append (held old.lists) old.scopes binding.grown.0

  longer : length old.scopes ≤ length scopes
  longer = omega (arith, ap length binding.grown.1, length-append old.scopes binding.grown.0)

  in_old : AllByRecursion (ScopeIn (length (map (held old.lists) old.scopes))) old.todo
  in_old =
      let Q : ℕ → Type 0 = λ k. AllByRecursion (ScopeIn k) old.todo in
      subst Q (sym (length-map old.scopes (held old.lists))) sound.todo

  -- what is left is the same with more scopes
  same_rest : (v : Value) (n : ℕ) → rest (evaluation_from program) program (scopes_held old) old.todo
      (v ∷ below_by count (values_found old)) n
      ≡ rest (evaluation_from program) program (record {
        bound = map (held old.lists) scopes;
        around =
            old.around.env.now;
      })
      old.todo
      (v ∷ map (datum_value old.lists) ds) n
  same_rest v n =
      ap (λ l. rest (evaluation_from program) program (scopes_held old) old.todo (v ∷ l) n)
      (below-by-found old.lists count old.values ∙ ap (map (datum_value old.lists)) (sym binding.under))
      ∙ sym (ap (λ ss. rest (evaluation_from program) program
      (record { bound = ss; around = old.around.env.now }) old.todo (v ∷ map (datum_value old.lists) ds) n)
      grown_is ∙ rest-more (evaluation_from program) program (map (held old.lists) old.scopes)
      (map (held old.lists) binding.grown.0) old.around.env.now old.todo (v ∷ map (datum_value old.lists) ds) n in_old)

  -- a function that is not there
  pub enter-none : (values : List Datum) → slice_get program.fns f.0 ≡ None → values ≡ datum.Int (pos 0) ∷ ds
      → IsDoneFor program (act.Enter calls f count) old
      (record { todo = old.todo; values = values; lists = old.lists; scopes = scopes; around = old.around })
  enter-none values none pushed =
      let P : List Datum → Type 0 = λ l. IsDoneFor program (act.Enter calls f count) old
      (record { todo = old.todo; values = l; lists = old.lists; scopes = scopes; around = old.around }) in
      let held_in = binding.sound (length old.lists) sound.values sound.scopes in
      subst
      P
      (sym pushed)
      (record {
        sound =
            record {
              todo = todo-higher (length old.scopes) (length scopes) old.todo longer sound.todo;
              values = (omega arith, held_in.0);
              scopes = held_in.1;
              rises = sound.rises;
            };
        same = λ n.
            ap (λ o. go_on (body_evaluation (evaluation_from program) calls o (arguments_on count (values_found old)) n)
            (λ v. rest (evaluation_from program) program (scopes_held old) old.todo
            (v ∷ below_by count (values_found old)))) none
            ∙ same_rest nought n;
        less = omega arith;
      })

  -- the body of a function
  pub enter-done : (d : FnDecl) (todo : List Pending) → slice_get program.fns f.0 ≡ Some d
      → names ≡ map (λ par. par.0) d.pars → calls < max_calls
      → todo ≡ act.Term (record { variables = place; calls = calls + 1 }) d.body ∷ old.todo
      → IsDoneFor program (act.Enter calls f count) old
      (record { todo = todo; values = ds; lists = old.lists; scopes = scopes; around = old.around })
  enter-done d todo some names_are few planned =
      let P : List Pending → Type 0 = λ l. IsDoneFor program (act.Enter calls f count) old
      (record { todo = l; values = ds; lists = old.lists; scopes = scopes; around = old.around }) in
      let held_in = binding.sound (length old.lists) sound.values sound.scopes in
      let inner : TermScope = record { variables = place; calls = calls + 1 } in
      let all_held : Variables = record { bound = map (held old.lists) scopes; around = old.around.env.now } in
      let env : variables_at all_held inner ≡ bind_arguments d (arguments_on count (values_found old)) =
      ap (λ k. get_or (map (held old.lists) scopes) place [] ++ seen_in k old.around.env.now) (add-one calls)
      ∙ append-nil (get_or (map (held old.lists) scopes) place [])
      ∙ at-held old.lists place scopes
      ∙ ap (held old.lists) (binding.bound ∙ bound-whole names count old.values)
      ∙ held-zip old.lists names (arguments_at count old.values)
      ∙ ap (λ ns. zip ns (map (datum_value old.lists) (arguments_at count old.values))) names_are
      ∙ ap (zip (map (λ par. par.0) d.pars)) (sym (arguments-found old.lists count old.values)) in
      let open_calls : nat_lt calls max_calls ≡ true = search (tests, rules) in
      subst
      P
      (sym planned)
      (record {
        sound =
            record {
              todo = (binding.there, todo-higher (length old.scopes) (length scopes) old.todo longer sound.todo);
              values = held_in.0;
              scopes = held_in.1;
              rises = sound.rises;
            };
        same = λ n.
            ap (λ o. go_on (body_evaluation (evaluation_from program) calls o (arguments_on count (values_found old)) n)
            (λ v. rest (evaluation_from program) program (scopes_held old) old.todo
            (v ∷ below_by count (values_found old)))) some
            ∙ ap (λ b. go_on (cond b (evaluation_from program (calls + 1)
            (bind_arguments d (arguments_on count (values_found old))) d.body n) (faults fault.Depth))
            (λ v. rest (evaluation_from program) program (scopes_held old) old.todo
            (v ∷ below_by count (values_found old)))) open_calls
            ∙ ap (λ e. go_on (evaluation_from program (calls + 1) e d.body n)
            (λ v. rest (evaluation_from program) program (scopes_held old) old.todo
            (v ∷ below_by count (values_found old)))) (sym env)
            ∙ go_on-next (evaluation_from program (calls + 1) (variables_at all_held inner) d.body n) _ _ (λ v m.
            same_rest v m);
        less = omega arith;
      })

  pub enter-none-at : (todo : List Pending) (values : List Datum) (lists : List ValueList) (around : Around)
      → todo ≡ old.todo → lists ≡ old.lists → around ≡ old.around → slice_get program.fns f.0 ≡ None → values ≡
      datum.Int (pos 0) ∷ ds
      → IsDoneFor program (act.Enter calls f count) old
      (record { todo = todo; values = values; lists = lists; scopes = scopes; around = around })
  enter-none-at todo values lists around todo_is lists_are around_is none pushed =
      let P : List Pending → Type 0 = λ l. IsDoneFor program (act.Enter calls f count) old
      (record { todo = l; values = values; lists = lists; scopes = scopes; around = around }) in
      let Q : List ValueList → Type 0 = λ l.
      IsDoneFor program (act.Enter calls f count) old
      (record { todo = old.todo; values = values; lists = l; scopes = scopes; around = around }) in
      let R : Around → Type 0 = λ a. IsDoneFor program (act.Enter calls f count) old
      (record { todo = old.todo; values = values; lists = old.lists; scopes = scopes; around = a }) in
      subst P (sym todo_is) (subst Q (sym lists_are) (subst R (sym around_is) (enter-none values none pushed)))

  pub enter-done-at : (d : FnDecl) (todo bound_todo : List Pending) (lists : List ValueList) (around : Around)
      → bound_todo ≡ old.todo → lists ≡ old.lists → around ≡ old.around → slice_get program.fns f.0 ≡ Some d → names
      ≡ map (λ par. par.0) d.pars → calls < max_calls
      → todo ≡ act.Term (record { variables = place; calls = calls + 1 }) d.body ∷ bound_todo
      → IsDoneFor program (act.Enter calls f count) old
      (record { todo = todo; values = ds; lists = lists; scopes = scopes; around = around })
  enter-done-at d todo bound_todo lists around todo_is lists_are around_is some names_are few planned =
      let Q : List ValueList → Type 0 = λ l.
      IsDoneFor program (act.Enter calls f count) old
      (record { todo = todo; values = ds; lists = l; scopes = scopes; around = around }) in
      let R : Around → Type 0 = λ a. IsDoneFor program (act.Enter calls f count) old
      (record { todo = todo; values = ds; lists = old.lists; scopes = scopes; around = a }) in
      subst Q (sym lists_are) (subst R (sym around_is) (enter-done d todo some names_are few
      (planned ∙ ap (λ l. act.Term (record { variables = place; calls = calls + 1 }) d.body ∷ l) todo_is)))

-- the count of what is left to bind, as a number after another
pub turned : (names : List VarId) (count : ℕ) (first : List Datum) (before : List (List (VarId × Datum))) (k : ℕ)
    (ds : List Datum) (scopes : List (List (VarId × Datum))) (place : ℕ) → 0 < k
    → IsBinding names count first before k ds scopes place
    → IsBinding names count first before (suc (k - 1)) ds scopes place
turned names count first before k ds scopes place some binding =
    let same : k ≡ suc (k - 1) = omega arith in
    let P : ℕ → Type 0 = λ n. IsBinding names count first before n ds scopes place in
    subst P same binding
