-- A list is taken apart.
use Rattle.std.proofs.Common.{◌≡◌, ◌+◌, ◌<◌, ◌≤◌, ℕ, zero, suc, List, [], ◌∷◌, ◌++◌, length, map, get_or, Some, refl, sym, ap, ◌∙◌, subst, arith, append_assoc, length-append}
use Rattle.std.specs.List.{AllByRecursion}
use Rattle.std.proofs.Math.Seq.{get_or-append_seam}
use Rattle.std.proofs.lemmas.List.{map-append, length-map, get_or_append_left}
use Rattle.nomos_ir.specs.declared.ids.VarId.{VarId}
use Rattle.nomos_ir.specs.declared.lists.ProgramLists.{ProgramLists}
use Rattle.nomos_ir.specs.Evaluation.{go_on, taken_apart, bind_parts}
use Rattle.nomos_ir.specs.Value.{Value, list, ValueList, no_values, value}
use Rattle.nomos_ir.proofs.EvaluationLaws.{evaluation_from}
use Rattle.nomos_eval.specs.declared.pending.Pending.{Pending}
use Rattle.nomos_eval.specs.declared.pending.Pending.TheVariants as act
use Rattle.nomos_eval.specs.declared.pending.Cases.{Cases}
use Rattle.nomos_eval.specs.declared.pending.TermScope.{TermScope}
use Rattle.nomos_eval.specs.declared.datum.Datum.{Datum}
use Rattle.nomos_eval.specs.declared.datum.Datum.TheVariants as datum
use Rattle.nomos_eval.specs.declared.evaluator.Evaluator.{Evaluator}
use Rattle.nomos_eval.specs.mirror.Evaluator.{held, scopes_held, values_found, left_of, IsSound, IsDone, top_datum, below_top}
use Rattle.nomos_eval.specs.mirror.Parted.{IsParted}
use Rattle.nomos_eval.specs.mirror.Rest.{Variables, rest, follow, seen_in, variables_at, below, ScopeIn}
use Rattle.nomos_eval.specs.mirror.EvalTable.{datum_value, reach}
use Rattle.nomos_eval.proofs.ActLemmas.{top-found, below-found, top-in, below-in}
use Rattle.nomos_eval.proofs.EvaluatorLemmas.{at-scope, values-more, scopes-more, values-higher, scopes-higher}
use Rattle.nomos_eval.proofs.RestLemmas.{go_on-next, rest-more}

-- what is left is in scopes that are there, where more are added
pub todo-higher : (n m : ℕ) (todo : List Pending) → n ≤ m → AllByRecursion (ScopeIn n) todo
    → AllByRecursion (ScopeIn m) todo
todo-higher n m [] less inside = tt
todo-higher n m (act.Term s t ∷ todo) less inside = (omega (arith, inside.0), todo-higher n m todo less inside.1)
todo-higher n m (act.Numbers operator ∷ todo) less inside = (tt, todo-higher n m todo less inside.1)
todo-higher n m (act.PutBefore ∷ todo) less inside = (tt, todo-higher n m todo less inside.1)
todo-higher n m (act.Both s t ∷ todo) less inside = (omega (arith, inside.0), todo-higher n m todo less inside.1)
todo-higher n m (act.Either s t ∷ todo) less inside = (omega (arith, inside.0), todo-higher n m todo less inside.1)
todo-higher n m (act.Truth ∷ todo) less inside = (tt, todo-higher n m todo less inside.1)
todo-higher n m (act.Not ∷ todo) less inside = (tt, todo-higher n m todo less inside.1)
todo-higher n m (act.Choose s a b ∷ todo) less inside = (omega (arith, inside.0), todo-higher n m todo less inside.1)
todo-higher n m (act.Open s c ∷ todo) less inside = (omega (arith, inside.0), todo-higher n m todo less inside.1)
todo-higher n m (act.Enter calls f count ∷ todo) less inside = (tt, todo-higher n m todo less inside.1)

-- all scopes hold data that are there, with one more
pub scopes-in : (n : ℕ) (ss : List (List (VarId × Datum))) (s : List (VarId × Datum))
    → AllByRecursion (AllByRecursion (λ b. reach b.1 ≤ n)) ss → AllByRecursion (λ b. reach b.1 ≤ n) s
    → AllByRecursion (AllByRecursion (λ b. reach b.1 ≤ n)) (ss ++ s ∷ [])
scopes-in n [] s all inside = (inside, tt)
scopes-in n (r ∷ ss) s all inside = (all.0, scopes-in n ss s all.1 inside)

-- the variables at a place, as values
pub at-held : (lists : List ValueList) (k : ℕ) (ss : List (List (VarId × Datum)))
    → get_or (map (held lists) ss) k [] ≡ held lists (get_or ss k [])
at-held lists k [] = refl
at-held lists zero (s ∷ ss) = refl
at-held lists (suc k) (s ∷ ss) = at-held lists k ss

-- a list that has parts, by the topmost value
open-step : (program : ProgramLists) (lists : List ValueList) (scopes : Variables) (todo : List Pending)
    (scope : TermScope) (c : Cases) (old : List Datum) (x : Value) (xs : ValueList) (n : ℕ)
    → datum_value lists (top_datum old) ≡ list (value x xs)
    → rest (evaluation_from program) program scopes (act.Open scope c ∷ todo) (map (datum_value lists) old) n
    ≡ go_on (evaluation_from program scope.calls
    (bind_parts c.head c.tail x (list xs) (variables_at scopes scope)) c.full n)
    (λ v. rest (evaluation_from program) program scopes todo (v ∷ map (datum_value lists) (below_top old)))
open-step program lists scopes todo scope c old x xs n is =
    ap (λ w. go_on (taken_apart w (follow (evaluation_from program) program scopes scope c.empty)
    (λ y ys. evaluation_from program scope.calls
    (bind_parts c.head c.tail y ys (variables_at scopes scope)) c.full)
    (follow (evaluation_from program) program scopes scope c.full) n)
    (λ v. rest (evaluation_from program) program scopes todo (v ∷ below (map (datum_value lists) old))))
    (top-found lists old ∙ is)
    ∙ ap (λ l. go_on (evaluation_from program scope.calls
    (bind_parts c.head c.tail x (list xs) (variables_at scopes scope)) c.full n)
    (λ v. rest (evaluation_from program) program scopes todo (v ∷ l))) (below-found lists old)

-- a list is taken apart, with its head and its tail in two more scopes
pub open-done : (scope : TermScope) (c : Cases) (old : Evaluator) (mid : List Datum)
    (first second : List (List (VarId × Datum))) (todo : List Pending) (place : ℕ) (h : Datum)
    (t with_head with_tail : ℕ)
    → IsSound old → scope.variables < length old.scopes → datum.List place ≡ top_datum old.values
    → mid ≡ below_top old.values → (reach h ≤ length old.lists) × (t < length old.lists)
    × (get_or old.lists place no_values ≡ value (datum_value old.lists h) (get_or old.lists t no_values))
    → with_head ≡ length old.scopes → first ≡ old.scopes ++ ((c.head, h) ∷ get_or old.scopes scope.variables []) ∷ []
    → with_tail ≡ length first → second ≡ first ++ ((c.tail, datum.List t) ∷ get_or first with_head []) ∷ []
    → todo ≡ act.Term (record { variables = with_tail; calls = scope.calls }) c.full ∷ old.todo
    → IsDone (act.Open scope c) old (record {
      todo = todo;
      values = mid;
      lists = old.lists;
      scopes = second;
      around =
          old.around;
    })
open-done scope c old mid first second todo place h t with_head with_tail sound inside last mid_is parts head_at
    first_is tail_at second_is planned =
    let s1 = (c.head, h) ∷ get_or old.scopes scope.variables [] in
    let first_is' : first ≡ old.scopes ++ s1 ∷ [] = first_is in
    let head_there : get_or first with_head []
    ≡ s1 = ap (λ k. get_or first k []) head_at ∙ ap (λ l. get_or l (length old.scopes) []) first_is'
    ∙ get_or-append_seam old.scopes s1 [] [] in
    let s2 = (c.tail, datum.List t) ∷ s1 in
    let second_is' : second ≡ (old.scopes ++ s1 ∷ []) ++ s2 ∷ [] = second_is
    ∙ ap (λ l. l ++ ((c.tail, datum.List t) ∷ get_or first with_head []) ∷ []) first_is'
    ∙ ap (λ s. (old.scopes ++ s1 ∷ []) ++ ((c.tail, datum.List t) ∷ s) ∷ []) head_there in
    let place_is : with_tail ≡ length (old.scopes ++ s1 ∷ []) = tail_at ∙ ap length first_is' in
    let longer : length (old.scopes ++ s1 ∷ [])
    ≡ length old.scopes + 1 = omega (arith, length-append old.scopes (s1 ∷ [])) in
    let whole = (old.scopes ++ s1 ∷ []) ++ s2 ∷ [] in
    let longest : length whole ≡ length old.scopes
    + 2 = omega (arith, longer, length-append (old.scopes ++ s1 ∷ []) (s2 ∷ [])) in
    let inner : TermScope = record { variables = length (old.scopes ++ s1 ∷ []); calls = scope.calls } in
    let new : Evaluator = record {
      todo = act.Term inner c.full ∷
          old.todo;
      values = below_top old.values;
      lists = old.lists;
      scopes = whole;
      around = old.around;
    } in
    let all : record { todo = todo; values = mid; lists = old.lists; scopes = second; around = old.around } ≡ new =
    ap (λ l. record { todo = l; values = mid; lists = old.lists; scopes = second; around = old.around })
    (planned ∙ ap (λ k. act.Term (record { variables = k; calls = scope.calls }) c.full ∷ old.todo) place_is)
    ∙ ap (λ l. record {
      todo = act.Term inner c.full ∷ old.todo;
      values = l;
      lists = old.lists;
      scopes = second;
      around = old.around;
    })
    mid_is
    ∙ ap (λ l. record {
      todo = act.Term inner c.full ∷
          old.todo;
      values = below_top old.values;
      lists = old.lists;
      scopes = l;
      around = old.around;
    }) second_is' in
    let is_list : datum_value old.lists (top_datum old.values)
    ≡ list (value (datum_value old.lists h) (get_or old.lists t no_values)) = ap (datum_value old.lists) (sym last)
    ∙ ap list parts.2 in
    let looked = at-scope (length old.lists) scope.variables old.scopes sound.scopes in
    let s1_in : AllByRecursion (λ b. reach b.1 ≤ length old.lists) s1 = (parts.0, looked) in
    let s2_in : AllByRecursion (λ b. reach b.1 ≤ length old.lists) s2 = (omega (arith, parts.1), s1_in) in
    let around = old.around.env.now in
    let all_held : Variables = record { bound = map (held old.lists) whole; around = around } in
    let env : variables_at all_held inner
    ≡ bind_parts c.head c.tail (datum_value old.lists h) (list (get_or old.lists t no_values))
    (variables_at (scopes_held old) scope) =
    ap (λ l. l ++ seen_in scope.calls around)
    (at-held old.lists (length (old.scopes ++ s1 ∷ [])) whole
    ∙ ap (held old.lists) (get_or-append_seam (old.scopes ++ s1 ∷ []) s2 [] [])
    ∙ ap (λ e. (c.tail, list (get_or old.lists t no_values)) ∷ (c.head, datum_value old.lists h) ∷ e)
    (sym (at-held old.lists scope.variables old.scopes))) in
    let P : Evaluator → Type 0 = λ m. IsDone (act.Open scope c) old m in
    let held_whole : map (held old.lists) whole
    ≡ map (held old.lists) old.scopes ++ (held old.lists s1 ∷ held old.lists s2 ∷ []) = ap (map (held old.lists))
    (append_assoc old.scopes (s1 ∷ []) (s2 ∷ [])) ∙ map-append (held old.lists) old.scopes (s1 ∷ s2 ∷ []) in
    let same_count : length (map (held old.lists) old.scopes) ≡ length old.scopes = length-map old.scopes (held
    old.lists) in
    let todo_in : AllByRecursion (ScopeIn (length (map (held old.lists) old.scopes))) old.todo =
    (let Q : ℕ → Type 0 = λ k. AllByRecursion (ScopeIn k) old.todo in subst Q (sym same_count) sound.todo) in
    subst
    P
    (sym all)
    (record {
      sound =
          record {
            todo = (
              omega (arith, longest, longer),
              todo-higher (length old.scopes) (length whole) old.todo (omega (arith, longest)) sound.todo,
            );
            values =
                below-in (length old.lists) old.values sound.values;
            scopes =
                scopes-in (length old.lists) (old.scopes ++ s1 ∷ []) s2
                (scopes-in (length old.lists) old.scopes s1 sound.scopes s1_in) s2_in;
            rises = sound.rises;
          };
      same = λ program n.
          open-step program old.lists (scopes_held old) old.todo scope c old.values (datum_value old.lists h)
          (get_or old.lists t no_values) n is_list
          ∙ ap (λ e. go_on (evaluation_from program scope.calls e c.full n)
          (λ v. rest (evaluation_from program) program (scopes_held old) old.todo
          (v ∷ map (datum_value old.lists) (below_top old.values)))) (sym env)
          ∙ go_on-next (evaluation_from program scope.calls (variables_at all_held inner) c.full n) _ _
          (λ v m. sym (ap (λ ss. rest (evaluation_from program) program (record { bound = ss; around = around })
          old.todo
          (v ∷ map (datum_value old.lists) (below_top old.values)) m) held_whole
          ∙ rest-more (evaluation_from program) program (map (held old.lists) old.scopes)
          (held old.lists s1 ∷ held old.lists s2 ∷ []) around old.todo (v ∷ map (datum_value old.lists) (below_top
          old.values)) m todo_in));
      less = omega arith;
    })

-- lists are added, and all else stays
module _ (m : Evaluator) (more : List ValueList) (sound : IsSound m) where
  abbrev grown : Evaluator
  grown =
      record { todo = m.todo; values = m.values; lists = m.lists ++ more; scopes = m.scopes; around = m.around }

  longer : length m.lists ≤ length (m.lists ++ more)
  longer = omega (arith, length-append m.lists more)

  grown-sound : IsSound grown
  grown-sound =
      record {
        todo = sound.todo;
        values = values-higher (length m.lists) (length (m.lists ++ more)) m.values longer sound.values;
        scopes = scopes-higher (length m.lists) (length (m.lists ++ more)) m.scopes longer sound.scopes;
        rises = sound.rises;
      }

  grown-left : (program : ProgramLists) (a : Pending) (n : ℕ) → left_of program a m n ≡ left_of program a grown n
  grown-left program a n =
      ap (λ ss. rest (evaluation_from program) program (record { bound = ss; around = m.around.env.now }) (a ∷ m.todo)
      (values_found m) n) (sym (scopes-more m.lists more m.scopes sound.scopes))
      ∙ ap (λ vs. rest (evaluation_from program) program (scopes_held grown) (a ∷ m.todo) vs n)
      (sym (values-more m.lists more m.values sound.values))

  grown-done : (a : Pending) (new : Evaluator) → IsDone a grown new → IsDone a m new
  grown-done a new done =
      record {
        sound = done.sound;
        same = λ program n. grown-left program a n ∙ done.same program n;
        less = done.less;
      }

-- a list is taken apart, whose parts may be taken in
pub open-parted : (scope : TermScope) (c : Cases) (old : Evaluator) (mid : List Datum) (after : List ValueList)
    (first second : List (List (VarId × Datum))) (todo : List Pending) (place : ℕ) (h : Datum)
    (t with_head with_tail : ℕ)
    → IsSound old → scope.variables < length old.scopes → datum.List place ≡ top_datum old.values
    → mid ≡ below_top old.values → IsParted old.lists place after (Some (h, t))
    → with_head ≡ length old.scopes → first ≡ old.scopes ++ ((c.head, h) ∷ get_or old.scopes scope.variables []) ∷ []
    → with_tail ≡ length first → second ≡ first ++ ((c.tail, datum.List t) ∷ get_or first with_head []) ∷ []
    → todo ≡ act.Term (record { variables = with_tail; calls = scope.calls }) c.full ∷ old.todo
    → IsDone (act.Open scope c) old (record {
      todo = todo;
      values = mid;
      lists = after;
      scopes = second;
      around = old.around;
    })
open-parted scope c old mid after first second todo place h t with_head with_tail sound inside last mid_is parted
    head_at first_is tail_at second_is planned =
    let more = parted.0.0 in
    let place_in : reach (datum.List place)
    ≤ length old.lists = (let P : Datum
    → Type 0 = λ d. reach d ≤ length old.lists in subst P (sym last)
    (top-in (length old.lists) old.values sound.values)) in
    let stays : get_or (old.lists ++ more) place no_values
    ≡ get_or old.lists place no_values = get_or_append_left old.lists more no_values place (omega (arith, place_in)) in
    let P : List ValueList → Type 0 = λ l. (reach h ≤ length l) × (t < length l)
    × (get_or old.lists place no_values ≡ value (datum_value l h) (get_or l t no_values)) in
    let parts = subst P parted.0.1 (parted.1, parted.2, parted.3) in
    let Q : List ValueList → Type 0 = λ l. IsDone (act.Open scope c) old
    (record { todo = todo; values = mid; lists = l; scopes = second; around = old.around }) in
    subst
    Q
    (sym parted.0.1)
    (grown-done old more sound (act.Open scope c) _
    (open-done scope c (grown old more sound) mid first second todo place h t with_head with_tail
    (grown-sound old more sound) inside last mid_is (parts.0, parts.1, stays ∙ parts.2) head_at first_is tail_at
    second_is planned))
