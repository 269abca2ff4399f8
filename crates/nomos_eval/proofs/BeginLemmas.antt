-- An evaluation before its first step.
use Rattle.std.proofs.Common.{◌≡◌, ℕ, List, [], ◌∷◌, ◌++◌, length, refl, sym, ap, ◌∙◌, subst, arith}
use Rattle.nomos_ir.specs.declared.ids.TermId.{TermId}
use Rattle.nomos_ir.specs.declared.ids.VarId.{VarId}
use Rattle.nomos_ir.specs.Evaluation.{Environment, Evaluation, ends, faults, go_on}
use Rattle.nomos_ir.specs.Value.{ValueList}
use Rattle.nomos_ir.proofs.EvaluationLaws.{evaluation_from, evaluation-whole}
use Rattle.nomos_eval.specs.declared.pending.Pending.{Pending}
use Rattle.nomos_eval.specs.declared.pending.Pending.TheVariants as act
use Rattle.nomos_eval.specs.declared.around.Around.{Around}
use Rattle.nomos_eval.specs.declared.datum.Datum.{Datum}
use Rattle.nomos_eval.specs.mirror.Ascending.{Rises}
use Rattle.nomos_eval.specs.mirror.Begin.{IsBegun}

-- nothing follows
go_on-nothing : (e : Evaluation) → go_on e (λ v n. ends v n) ≡ e
go_on-nothing (ends v n) = refl
go_on-nothing (faults f) = refl

-- nothing is bound yet
first : (t : TermId) (env : Environment) (a : Around) → env ≡ a.env.now → Rises a.env.now a.known
    → IsBegun t env (record {
      todo = act.Term (record { variables = 0; calls = 0 }) t ∷ [];
      values = [];
      lists = [];
      scopes = [] ∷ [];
      around = a;
    })
first t env a same rises =
    record {
      sound = record {
        todo = (omega arith, tt);
        values = tt;
        scopes = (tt, tt);
        rises = rises;
      };
      same = λ program.
          go_on-nothing (evaluation_from program 0 a.env.now t 0)
          ∙ ap (λ e. evaluation_from program 0 e t 0) (sym same)
          ∙ sym (evaluation-whole program env t);
    }

pub begun : (t : TermId) (env : Environment) (a : Around) (none scopes : List (List (VarId × Datum))) (place : ℕ)
    (todo before : List Pending) (values : List Datum) (lists : List ValueList) → env ≡ a.env.now
    → Rises a.env.now a.known
    → none ≡ [] → place ≡ length none → scopes ≡ none ++ [] ∷ [] → before ≡ []
    → todo ≡ act.Term (record { variables = place; calls = 0 }) t ∷ before → values ≡ [] → lists ≡ []
    → IsBegun t env (record { todo = todo; values = values; lists = lists; scopes = scopes; around = a })
begun t env a none scopes place todo before values lists same rises none_is place_is added before_is planned
    values_are lists_are =
    let place_zero : place ≡ 0 = place_is ∙ ap length none_is in
    let scopes_are : scopes ≡ [] ∷ [] = added ∙ ap (λ l. l ++ [] ∷ []) none_is in
    let todo_is : todo ≡ act.Term (record { variables = 0; calls = 0 }) t ∷ [] =
    planned ∙ ap (λ l. act.Term (record { variables = place; calls = 0 }) t ∷ l) before_is
    ∙ ap (λ p. act.Term (record { variables = p; calls = 0 }) t ∷ []) place_zero in
    let P : List Pending → Type 0 = λ l.
    IsBegun t env (record { todo = l; values = values; lists = lists; scopes = scopes; around = a }) in
    let Q : List Datum → Type 0 = λ l. IsBegun t env (record {
      todo = act.Term (record { variables = 0; calls = 0 }) t ∷ [];
      values = l;
      lists = lists;
      scopes = scopes;
      around = a;
    }) in
    let R : List ValueList → Type 0 = λ l. IsBegun t env (record {
      todo = act.Term (record { variables = 0; calls = 0 }) t ∷ [];
      values = [];
      lists = l;
      scopes = scopes;
      around = a;
    }) in
    let S : List (List (VarId × Datum)) → Type 0 = λ l. IsBegun t env (record {
      todo = act.Term (record { variables = 0; calls = 0 }) t ∷ [];
      values = [];
      lists = [];
      scopes = l;
      around = a;
    }) in
    subst P (sym todo_is) (subst Q (sym values_are) (subst R (sym lists_are)
    (subst S (sym scopes_are) (first t env a same rises))))
