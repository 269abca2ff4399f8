-- What stays where lists and variables are added, and what the forms of terms find.
use Rattle.std.proofs.Common.{◌≡◌, ◌+◌, ◌-◌, ◌<◌, ◌≤◌, ◌==◌, ℕ, zero, suc, pos, Bool, true, false, cond, List, [], ◌∷◌, ◌++◌, length, map, get_or, Option, Some, None, unwrap_or, refl, sym, ap, ◌∙◌, subst, arith, length-append}
use Rattle.std.specs.List.{AllByRecursion}
use Rattle.std.proofs.lemmas.List.{append-nil}
use Rattle.std.proofs.lemmas.Option.{none-some}
use Rattle.std.proofs.Math.Seq.{get_or-append_seam}
use Rattle.nomos_ir.specs.declared.ids.FnId.{FnId}
use Rattle.nomos_ir.specs.declared.ids.TermId.{TermId}
use Rattle.nomos_ir.specs.declared.ids.VarId.{VarId}
use Rattle.nomos_ir.specs.declared.kind.Kind.{Kind}
use Rattle.nomos_ir.specs.declared.term_node.TermNode.{TermNode}
use Rattle.nomos_ir.specs.declared.term_node.TermNode.TheVariants as node
use Rattle.nomos_ir.specs.Bindings.{bound_to}
use Rattle.nomos_ir.specs.Evaluation.{Environment, nought}
use Rattle.nomos_ir.specs.Value.{Value, list, ValueList, no_values}
use Rattle.nomos_ir.proofs.EvaluationLaws.{evaluation_from}
use Rattle.nomos_eval.specs.declared.pending.Pending.{Pending}
use Rattle.nomos_eval.specs.declared.pending.Pending.TheVariants as act
use Rattle.nomos_eval.specs.declared.pending.TermScope.{TermScope}
use Rattle.nomos_eval.specs.declared.datum.Datum.{Datum}
use Rattle.nomos_eval.specs.declared.datum.Datum.TheVariants as datum
use Rattle.nomos_eval.specs.declared.evaluator.Evaluator.{Evaluator}
use Rattle.nomos_eval.specs.mirror.Evaluator.{held, scopes_held, values_found, left_with, IsSound, IsFound, IsEntered}
use Rattle.nomos_eval.specs.mirror.Rest.{rest, seen_in, variables_at, work, ScopeIn, argument_acts}
use Rattle.nomos_eval.specs.mirror.EvalTable.{datum_value, reach}
use Rattle.nomos_eval.specs.declared.around.Around.{Around}
use Rattle.nomos_eval.specs.mirror.Around.{IsLookedUp}
use Rattle.nomos_eval.specs.mirror.Ascending.{Rises}
use Rattle.nomos_eval.proofs.ListLemmas.{datum-more}
use Rattle.nomos_eval.proofs.RestLemmas.{leaves-arguments}

module _ (lists more : List ValueList) where
  -- values stay where lists are added
  pub values-more : (ds : List Datum) → AllByRecursion (λ d. reach d ≤ length lists) ds
      → map (datum_value (lists ++ more)) ds ≡ map (datum_value lists) ds
  values-more [] inside = refl
  values-more (d ∷ ds) inside =
      ap (λ v. v ∷ map (datum_value (lists ++ more)) ds) (datum-more lists more d inside.0)
      ∙ ap (λ vs. datum_value lists d ∷ vs) (values-more ds inside.1)

  pub held-more : (bs : List (VarId × Datum)) → AllByRecursion (λ b. reach b.1 ≤ length lists) bs
      → held (lists ++ more) bs ≡ held lists bs
  held-more [] inside = refl
  held-more (b ∷ bs) inside =
      ap (λ v. (b.0, v) ∷ held (lists ++ more) bs) (datum-more lists more b.1 inside.0)
      ∙ ap (λ vs. (b.0, datum_value lists b.1) ∷ vs) (held-more bs inside.1)

  pub scopes-more : (ss : List (List (VarId × Datum)))
      → AllByRecursion (AllByRecursion (λ b. reach b.1 ≤ length lists)) ss
      → map (held (lists ++ more)) ss ≡ map (held lists) ss
  scopes-more [] inside = refl
  scopes-more (s ∷ ss) inside =
      ap (λ v. v ∷ map (held (lists ++ more)) ss) (held-more s inside.0)
      ∙ ap (λ vs. held lists s ∷ vs) (scopes-more ss inside.1)

-- what is below a number is below a greater one
pub values-higher : (n m : ℕ) (ds : List Datum) → n ≤ m → AllByRecursion (λ d. reach d ≤ n) ds
    → AllByRecursion (λ d. reach d ≤ m) ds
values-higher n m [] less inside = tt
values-higher n m (d ∷ ds) less inside = (omega (arith, inside.0), values-higher n m ds less inside.1)

pub scope-higher : (n m : ℕ) (bs : List (VarId × Datum)) → n ≤ m → AllByRecursion (λ b. reach b.1 ≤ n) bs
    → AllByRecursion (λ b. reach b.1 ≤ m) bs
scope-higher n m [] less inside = tt
scope-higher n m (b ∷ bs) less inside = (omega (arith, inside.0), scope-higher n m bs less inside.1)

pub scopes-higher : (n m : ℕ) (ss : List (List (VarId × Datum))) → n ≤ m
    → AllByRecursion (AllByRecursion (λ b. reach b.1 ≤ n)) ss → AllByRecursion (AllByRecursion (λ b. reach b.1 ≤ m)) ss
scopes-higher n m [] less inside = tt
scopes-higher n m (s ∷ ss) less inside = (scope-higher n m s less inside.0, scopes-higher n m ss less inside.1)

-- a variable is looked up in the values as in the data
module _ (lists : List ValueList) (v : ℕ) (others : Environment) where
  step-some : (test : Bool) (e d : Datum) (o : Option Datum) (p : Option Value) → Some d ≡ cond test (Some e) o
      → (Some d ≡ o → p ≡ Some (datum_value lists d)) → cond test (Some (datum_value lists e)) p
      ≡ Some (datum_value lists d)
  step-some true e d o p is more = let same : d ≡ e = cc is in ap (λ x. Some (datum_value lists x)) (sym same)
  step-some false e d o p is more = more is

  bound-some : (bs : List (VarId × Datum)) (d : Datum) → Some d ≡ bound_to v bs
      → bound_to v (held lists bs ++ others) ≡ Some (datum_value lists d)
  bound-some [] d is = absurd (none-some d (sym is))
  bound-some (b ∷ bs) d is = step-some (b.0.0 == v) b.1 d (bound_to v bs) _ is (bound-some bs d)

  step-none : (test : Bool) (e : Datum) (o : Option Datum) (p q : Option Value) → None ≡ cond test (Some e) o
      → (None ≡ o → p ≡ q) → cond test (Some (datum_value lists e)) p ≡ q
  step-none true e o p q is more = absurd (none-some e is)
  step-none false e o p q is more = more is

  bound-none : (bs : List (VarId × Datum)) → None ≡ bound_to v bs
      → bound_to v (held lists bs ++ others) ≡ bound_to v others
  bound-none [] is = refl
  bound-none (b ∷ bs) is = step-none (b.0.0 == v) b.1 (bound_to v bs) _ (bound_to v others) is (bound-none bs)

-- the value of a variable is there
step-reach : (n : ℕ) (test : Bool) (e d : Datum) (o : Option Datum) → Some d ≡ cond test (Some e) o → reach e ≤ n
    → (Some d ≡ o → reach d ≤ n) → reach d ≤ n
step-reach n true e d o is here more = let same : d ≡ e = cc is in
    let P : Datum → Type 0 = λ x. reach x ≤ n in subst P (sym same) here
step-reach n false e d o is here more = more is

bound-reach : (n v : ℕ) (bs : List (VarId × Datum)) (d : Datum) → AllByRecursion (λ b. reach b.1 ≤ n) bs
    → Some d ≡ bound_to v bs → reach d ≤ n
bound-reach n v [] d inside is = absurd (none-some d (sym is))
bound-reach n v (b ∷ bs) d inside is =
    step-reach n (b.0.0 == v) b.1 d (bound_to v bs) is inside.0 (bound-reach n v bs d inside.1)

pub at-scope : (n k : ℕ) (ss : List (List (VarId × Datum))) → AllByRecursion (AllByRecursion (λ b. reach b.1 ≤ n)) ss
    → AllByRecursion (λ b. reach b.1 ≤ n) (get_or ss k [])
at-scope n k [] inside = tt
at-scope n zero (s ∷ ss) inside = inside.0
at-scope n (suc k) (s ∷ ss) inside = at-scope n k ss inside.1

at-held : (lists : List ValueList) (k : ℕ) (ss : List (List (VarId × Datum)))
    → get_or (map (held lists) ss) k [] ≡ held lists (get_or ss k [])
at-held lists k [] = refl
at-held lists zero (s ∷ ss) = refl
at-held lists (suc k) (s ∷ ss) = at-held lists k ss

-- a variable that is bound in the scope
pub found-bound : (scopes : List (List (VarId × Datum))) (scope : TermScope) (v : VarId) (a : Around)
    (lists : List ValueList) (d : Datum) → Rises a.env.now a.known
    → AllByRecursion (AllByRecursion (λ b. reach b.1 ≤ length lists)) scopes
    → Some d ≡ bound_to v.0 (get_or scopes scope.variables []) → IsFound scopes scope v a lists a lists d
found-bound scopes scope v a lists d rises inside is =
    record {
      env = refl;
      grown = ([], sym (append-nil lists));
      rises = rises;
      there = bound-reach (length lists) v.0 (get_or scopes scope.variables []) d
          (at-scope (length lists) scope.variables scopes inside) is;
      same = sym (ap (λ e. unwrap_or (bound_to v.0 (e ++ seen_in scope.calls a.env.now)) nought)
          (at-held lists scope.variables scopes)
          ∙ ap (λ o. unwrap_or o nought)
          (bound-some lists v.0 (seen_in scope.calls a.env.now) (get_or scopes scope.variables []) d is));
    }

-- what is not bound in the scope is looked up around it
around-is : (scopes : List (List (VarId × Datum))) (scope : TermScope) (v : VarId) (env : Environment)
    (lists : List ValueList) → None ≡ bound_to v.0 (get_or scopes scope.variables [])
    → unwrap_or (bound_to v.0 (seen_in scope.calls env)) nought ≡ unwrap_or (bound_to v.0
    (variables_at (record { bound = map (held lists) scopes; around = env }) scope)) nought
around-is scopes scope v env lists none =
    sym (ap (λ e. unwrap_or (bound_to v.0 (e ++ seen_in scope.calls env)) nought) (at-held lists scope.variables scopes)
    ∙ ap (λ o. unwrap_or o nought)
    (bound-none lists v.0 (seen_in scope.calls env) (get_or scopes scope.variables []) none))

-- a function sees no more
pub found-nothing : (scopes : List (List (VarId × Datum))) (scope : TermScope) (v : VarId) (a : Around)
    (lists : List ValueList) → Rises a.env.now a.known → 0 < scope.calls
    → None ≡ bound_to v.0 (get_or scopes scope.variables [])
    → IsFound scopes scope v a lists a lists (datum.Int (pos 0))
found-nothing scopes scope v a lists rises some none =
    let deeper : scope.calls ≡ suc (scope.calls - 1) = omega arith in
    record {
      env = refl;
      grown = ([], sym (append-nil lists));
      rises = rises;
      there = omega arith;
      same = sym (ap (λ k. unwrap_or (bound_to v.0 (seen_in k a.env.now)) nought) deeper)
          ∙ around-is scopes scope v a.env.now lists none;
    }

pub found-around : (scopes : List (List (VarId × Datum))) (scope : TermScope) (v : VarId) (a new : Around)
    (lists after : List ValueList) (d : Datum) → scope.calls ≤ 0
    → None ≡ bound_to v.0 (get_or scopes scope.variables []) → IsLookedUp a lists v new after d
    → IsFound scopes scope v a lists new after d
found-around scopes scope v a new lists after d outermost none looked =
    let first : scope.calls ≡ 0 = omega arith in
    record {
      env = looked.env;
      grown = looked.grown;
      rises = looked.rises;
      there = looked.there;
      same = looked.same ∙ sym (ap (λ k. unwrap_or (bound_to v.0 (seen_in k a.env.now)) nought) first)
          ∙ around-is scopes scope v a.env.now lists none;
    }

-- a variable that was found is the value of its node
pub variable-entered : (scope : TermScope) (v : VarId) (old : Evaluator) (around : Around) (lists : List ValueList)
    (d : Datum) (values : List Datum) → IsSound old
    → IsFound old.scopes scope v old.around old.lists around lists d → values ≡ d ∷ old.values → (at : ℕ)
    → IsEntered scope (node.Var at v) old
    (record { todo = old.todo; values = values; lists = lists; scopes = old.scopes; around = around })
variable-entered scope v old around lists d values sound found pushed at =
    let longer : length old.lists ≤ length lists = omega
    (arith, ap length found.grown.1, length-append old.lists found.grown.0) in
    let scopes_are : map (held lists) old.scopes ≡ map (held old.lists) old.scopes =
    ap (λ l. map (held l) old.scopes) found.grown.1 ∙ scopes-more old.lists found.grown.0 old.scopes sound.scopes in
    let values_are : map (datum_value lists) old.values ≡ map (datum_value old.lists) old.values =
    ap (λ l. map (datum_value l) old.values) found.grown.1
    ∙ values-more old.lists found.grown.0 old.values sound.values in
    let P : List Datum → Type 0 = λ l. IsEntered scope (node.Var at v) old
    (record { todo = old.todo; values = l; lists = lists; scopes = old.scopes; around = around }) in
    subst
    P
    (sym pushed)
    (record {
      sound =
          record {
            todo = sound.todo;
            values = (found.there, values-higher (length old.lists) (length lists) old.values longer sound.values);
            scopes = scopes-higher (length old.lists) (length lists) old.scopes longer sound.scopes;
            rises = found.rises;
          };
      same = λ program n.
          ap (λ w. left_with program old w n) (sym found.same)
          ∙ ap (λ e. rest (evaluation_from program) program
          (record { bound = map (held old.lists) old.scopes; around = e }) old.todo
          (datum_value lists d ∷ map (datum_value old.lists) old.values) n) (sym found.env)
          ∙ ap (λ ss. rest (evaluation_from program) program (record { bound = ss; around = around.env.now }) old.todo
          (datum_value lists d ∷ map (datum_value old.lists) old.values) n) (sym scopes_are)
          ∙ ap (λ vs. rest (evaluation_from program) program
          (record { bound = map (held lists) old.scopes; around = around.env.now }) old.todo
          (datum_value lists d ∷ vs) n) (sym values_are);
      little = omega arith;
    })

-- the list that was added last
pub last-list : (lists : List ValueList) (vs : ValueList) → get_or (lists ++ vs ∷ []) (length lists) no_values ≡ vs
last-list lists vs = get_or-append_seam lists vs [] no_values

-- the empty list
pub nil-entered : (scope : TermScope) (at : ℕ) (k : Kind) (old : Evaluator) (place : ℕ) (lists : List ValueList)
    (values : List Datum) → IsSound old → place ≡ length old.lists → lists ≡ old.lists ++ no_values ∷ []
    → values ≡ datum.List place ∷ old.values
    → IsEntered scope (node.Nil at k) old
    (record { todo = old.todo; values = values; lists = lists; scopes = old.scopes; around = old.around })
nil-entered scope at k old place lists values sound place_is added pushed =
    let more = old.lists ++ no_values ∷ [] in
    let longer : length more ≡ length old.lists + 1 = omega (arith, length-append old.lists (no_values ∷ [])) in
    let new : Evaluator = record {
      todo = old.todo;
      values = datum.List (length old.lists) ∷
          old.values;
      lists = more;
      scopes = old.scopes;
      around = old.around;
    } in
    let all : record { todo = old.todo; values = values; lists = lists; scopes = old.scopes; around = old.around } ≡
    new =
    ap (λ vs. record { todo = old.todo; values = vs; lists = lists; scopes = old.scopes; around = old.around })
    (pushed ∙ ap (λ p. datum.List p ∷ old.values) place_is)
    ∙ ap (λ l. record {
      todo = old.todo;
      values = datum.List (length old.lists) ∷
          old.values;
      lists = l;
      scopes = old.scopes;
      around = old.around;
    }) added in
    let P : Evaluator → Type 0 = λ m. IsEntered scope (node.Nil at k) old m in
    subst
    P
    (sym all)
    (record {
      sound =
          record {
            todo = sound.todo;
            values = (
              omega (arith, longer),
              values-higher (length old.lists) (length more) old.values (omega (arith, longer))
                  sound.values,
            );
            scopes = scopes-higher (length old.lists) (length more) old.scopes (omega (arith, longer))
                sound.scopes;
            rises = sound.rises;
          };
      same = λ program n.
          ap (λ ss. rest (evaluation_from program) program (record { bound = ss; around = old.around.env.now }) old.todo
          (list no_values ∷ values_found old) n)
          (sym (scopes-more old.lists (no_values ∷ []) old.scopes sound.scopes))
          ∙ ap (λ vs. rest (evaluation_from program) program
          (record { bound = map (held more) old.scopes; around = old.around.env.now }) old.todo (list no_values ∷ vs)
          n) (sym (values-more old.lists (no_values ∷ []) old.values sound.values))
          ∙ ap (λ v. rest (evaluation_from program) program
          (record { bound = map (held more) old.scopes; around = old.around.env.now }) old.todo
          (list v ∷ map (datum_value more) old.values) n) (sym (last-list old.lists no_values));
      little = omega arith;
    })

-- a call
arguments-in : (count : ℕ) (scope : TermScope) (ts : List TermId) (todo : List Pending) → scope.variables < count
    → AllByRecursion (ScopeIn count) todo → AllByRecursion (ScopeIn count) (argument_acts scope ts ++ todo)
arguments-in count scope [] todo inside others = others
arguments-in count scope (t ∷ ts) todo inside others = (inside, arguments-in count scope ts todo inside others)

arguments-work : (scope : TermScope) (ts : List TermId) (todo : List Pending)
    → work (argument_acts scope ts ++ todo) ≡ work todo
arguments-work scope [] todo = refl
arguments-work scope (t ∷ ts) todo = omega (arith, arguments-work scope ts todo)

pub call-entered : (scope : TermScope) (at : ℕ) (f : FnId) (ts : List TermId) (old : Evaluator) (todo : List Pending)
    → IsSound old → scope.variables < length old.scopes
    → todo ≡ argument_acts scope ts ++ act.Enter scope.calls f (length ts) ∷ old.todo
    → IsEntered scope (node.Call at f ts) old
    (record { todo = todo; values = old.values; lists = old.lists; scopes = old.scopes; around = old.around })
call-entered scope at f ts old todo sound inside planned =
    let P : List Pending → Type 0 = λ l. IsEntered scope (node.Call at f ts) old
    (record { todo = l; values = old.values; lists = old.lists; scopes = old.scopes; around = old.around }) in
    subst
    P
    (sym planned)
    (record {
      sound =
          record {
            todo = arguments-in (length old.scopes) scope ts (act.Enter scope.calls f (length ts) ∷ old.todo)
                inside (tt, sound.todo);
            values = sound.values;
            scopes = sound.scopes;
            rises = sound.rises;
          };
      same =
          λ program n. leaves-arguments (evaluation_from program) program (scopes_held old) scope f (length ts) ts []
          old.todo (values_found old) n (omega arith);
      little = omega (arith, arguments-work scope ts (act.Enter scope.calls f (length ts) ∷ old.todo));
    })

-- what a call plans, under the name of its arguments
pub call-planned : (scope : TermScope) (f : FnId) (ts given : List TermId) (old new : List Pending)
    → new ≡ argument_acts scope given ++ act.Enter scope.calls f (length given) ∷ old → given ≡ ts
    → new ≡ argument_acts scope ts ++ act.Enter scope.calls f (length ts) ∷ old
call-planned scope f ts given old new planned same =
    planned ∙ ap (λ l. argument_acts scope l ++ act.Enter scope.calls f (length l) ∷ old) same

-- the same of a node that is known to be of this form
pub variable-found : (x : TermNode) (scope : TermScope) (at : ℕ) (v : VarId) (old new : Evaluator) → x ≡ node.Var at v
    → ((at : ℕ) → IsEntered scope (node.Var at v) old new) → IsEntered scope x old new
variable-found x scope at v old new is entered =
    let P : TermNode → Type 0 = λ y. IsEntered scope y old new in subst P (sym is) (entered at)

pub nil-found : (x : TermNode) (scope : TermScope) (at : ℕ) (k : Kind) (old : Evaluator) (place : ℕ)
    (lists : List ValueList)
    (values : List Datum) → x ≡ node.Nil at k → IsSound old → place ≡ length old.lists
    → lists ≡ old.lists ++ no_values ∷ [] → values ≡ datum.List place ∷ old.values
    → IsEntered scope x old (record {
      todo = old.todo;
      values = values;
      lists = lists;
      scopes = old.scopes;
      around =
          old.around;
    })
nil-found x scope at k old place lists values is sound place_is added pushed =
    let P : TermNode → Type 0 = λ y.
    IsEntered scope y old (record {
      todo = old.todo;
      values = values;
      lists = lists;
      scopes = old.scopes;
      around =
          old.around;
    }) in
    subst P (sym is) (nil-entered scope at k old place lists values sound place_is added pushed)

pub call-found : (x : TermNode) (scope : TermScope) (at : ℕ) (f : FnId) (ts given : List TermId) (old : Evaluator)
    (todo : List Pending) → x ≡ node.Call at f ts → IsSound old → scope.variables < length old.scopes
    → todo ≡ argument_acts scope given ++ act.Enter scope.calls f (length given) ∷ old.todo → given ≡ ts
    → IsEntered scope x old (record {
      todo = todo;
      values = old.values;
      lists = old.lists;
      scopes = old.scopes;
      around = old.around;
    })
call-found x scope at f ts given old todo is sound inside planned same =
    let P : TermNode → Type 0 = λ y.
    IsEntered scope y old (record {
      todo = todo;
      values = old.values;
      lists = old.lists;
      scopes = old.scopes;
      around
          = old.around;
    }) in
    subst P (sym is) (call-entered scope at f ts old todo sound inside
    (call-planned scope f ts given old.todo todo planned same))
