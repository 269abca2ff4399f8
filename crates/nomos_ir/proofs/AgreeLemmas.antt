-- Evaluations that agree on the parts of a term agree on the term.
use Rattle.std.proofs.Common.{◌≡◌, ◌+◌, ◌≤◌, ℕ, ◌+ℤ◌, ◌-ℤ◌, ◌*ℤ◌, true, false, cond, nat_lt, List, [], ◌∷◌, Option, Some, None, unwrap_or, slice_get, refl, ap, ◌∙◌, arith}
use Rattle.std.specs.Prelude.{int_lt}
use Rattle.std.specs.List.{AllByRecursion}
use Rattle.nomos_ir.specs.declared.declaration.FnDecl.{FnDecl}
use Rattle.nomos_ir.specs.declared.fault.Fault.TheVariants as fault
use Rattle.nomos_ir.specs.declared.ids.TermId.{TermId}
use Rattle.nomos_ir.specs.declared.lists.ProgramLists.{ProgramLists}
use Rattle.nomos_ir.specs.declared.term_node.TermNode.{TermNode}
use Rattle.nomos_ir.specs.declared.term_node.TermNode.TheVariants as node
use Rattle.nomos_ir.specs.Bindings.{bound_to}
use Rattle.nomos_ir.specs.Evaluation.{Environment, Evaluation, ends, faults, Counted, Evaluator, max_calls, go_on, nought, whole, same_number, divided, rest_of_division, on_numbers, put_before, as_truth, both, either, opposite, chosen, taken_apart, bind_parts, bind_arguments, each_of, two_of, body_evaluation, node_evaluation, entered, evaluation}
use Rattle.nomos_ir.specs.Value.{Value, int, truth, list, no_values, value}
use Rattle.nomos_ir.proofs.EvaluationLemmas.{Holds, holds-evaluation}

-- no fewer nodes were entered than before
abbrev pub Rises : ℕ → Evaluation → Type 0
Rises n e = Holds (λ _. Unit {0}) n e

-- no evaluation leaves fewer nodes than were entered
pub rises : (lists : ProgramLists) (inside calls : ℕ) (env : Environment) (t : TermId) (n : ℕ)
    → Rises n (evaluation lists inside calls env t n)
rises lists inside calls env t n =
    holds-evaluation (λ _. Unit {0}) (λ _. tt) (λ _. tt) tt (λ _ _ _. (tt, tt)) (λ _ _ _ _ _. tt) lists inside calls env
    t n (λ _ _ _. tt)

-- the same next steps after the same evaluation
go_on-next : (n : ℕ) (e : Evaluation) (f g : Value → Counted) → Rises n e
    → ((v : Value) (m : ℕ) → n ≤ m → f v m ≡ g v m) → go_on e f ≡ go_on e g
go_on-next n (ends v m) f g up same = same v m up.0
go_on-next n (faults why) f g up same = refl

go_on-same : (n : ℕ) (e e' : Evaluation) (f g : Value → Counted) → Rises n e → e ≡ e'
    → ((v : Value) (m : ℕ) → n ≤ m → f v m ≡ g v m) → go_on e f ≡ go_on e' g
go_on-same n e e' f g up first same = go_on-next n e f g up same ∙ ap (λ x. go_on x g) first

both-same : (v : Value) (f g : Counted) (n : ℕ) → f n ≡ g n → both v f n ≡ both v g n
both-same (truth true) f g n same = ap (λ e. go_on e (λ w m. ends (as_truth w) m)) same
both-same (truth false) f g n same = refl
both-same (int z) f g n same = refl
both-same (list vs) f g n same = refl

either-same : (v : Value) (f g : Counted) (n : ℕ) → f n ≡ g n → either v f n ≡ either v g n
either-same (truth true) f g n same = refl
either-same (truth false) f g n same = ap (λ e. go_on e (λ w m. ends (as_truth w) m)) same
either-same (int z) f g n same = refl
either-same (list vs) f g n same = refl

chosen-same : (v : Value) (f f' g g' : Counted) (n : ℕ) → f n ≡ f' n → g n ≡ g' n → chosen v f g n ≡ chosen v f' g' n
chosen-same (truth true) f f' g g' n same_right same_wrong = same_right
chosen-same (truth false) f f' g g' n same_right same_wrong = same_wrong
chosen-same (int z) f f' g g' n same_right same_wrong = same_wrong
chosen-same (list vs) f f' g g' n same_right same_wrong = same_wrong

taken-same : (v : Value) (e e' : Counted) (f f' : Value → Value → Counted) (g g' : Counted) (n : ℕ) → e n ≡ e' n
    → ((x y : Value) → f x y n ≡ f' x y n) → g n ≡ g' n → taken_apart v e f g n ≡ taken_apart v e' f' g' n
taken-same (list no_values) e e' f f' g g' n same_empty same_full same_other = same_empty
taken-same (list (value v vs)) e e' f f' g g' n same_empty same_full same_other = same_full v (list vs)
taken-same (int z) e e' f f' g g' n same_empty same_full same_other = same_other
taken-same (truth b) e e' f f' g g' n same_empty same_full same_other = same_other

module _ (lists : ProgramLists) (p q : Evaluator)
    (up : (calls : ℕ) (env : Environment) (t : TermId) (n : ℕ) → Rises n (p calls env t n)) where
  -- the part is the same in both, from so many nodes on
  abbrev pub SameAt : ℕ → Environment → Environment → ℕ → TermId → Type 0
  SameAt calls a b n t = (m : ℕ) → n ≤ m → p calls a t m ≡ q calls b t m

  -- what has to be the same, so that a node is
  abbrev pub Needs : ℕ → Environment → Environment → ℕ → TermNode → Type 0
  Needs calls a b n (node.Number at k) = Unit {0}
  Needs calls a b n (node.Truth at c) = Unit {0}
  Needs calls a b n (node.Var at v) = bound_to v.0 a ≡ bound_to v.0 b
  Needs calls a b n (node.Call at f values) = AllByRecursion (SameAt calls a b n) values
  Needs calls a b n (node.Nil at kind) = Unit {0}
  Needs calls a b n (node.Add at s t) = SameAt calls a b n s × SameAt calls a b n t
  Needs calls a b n (node.Sub at s t) = SameAt calls a b n s × SameAt calls a b n t
  Needs calls a b n (node.Mul at s t) = SameAt calls a b n s × SameAt calls a b n t
  Needs calls a b n (node.Div at s t) = SameAt calls a b n s × SameAt calls a b n t
  Needs calls a b n (node.Rem at s t) = SameAt calls a b n s × SameAt calls a b n t
  Needs calls a b n (node.Less at s t) = SameAt calls a b n s × SameAt calls a b n t
  Needs calls a b n (node.Equal at s t) = SameAt calls a b n s × SameAt calls a b n t
  Needs calls a b n (node.And at s t) = SameAt calls a b n s × SameAt calls a b n t
  Needs calls a b n (node.Or at s t) = SameAt calls a b n s × SameAt calls a b n t
  Needs calls a b n (node.Cons at s t) = SameAt calls a b n s × SameAt calls a b n t
  Needs calls a b n (node.Not at s) = SameAt calls a b n s
  Needs calls a b n (node.If at test s t) = SameAt calls a b n test × SameAt calls a b n s × SameAt calls a b n t
  Needs calls a b n (node.Match at taken empty head tail full) =
      SameAt calls a b n taken × SameAt calls a b n empty × SameAt calls a b n full
      × ((x y : Value) → SameAt calls (bind_parts head tail x y a) (bind_parts head tail x y b) n full)

  two-same : (calls : ℕ) (a b : Environment) (n : ℕ) (s t : TermId) (next : Value → Value → Counted)
      → SameAt calls a b n s → SameAt calls a b n t → two_of (p calls a) s t next n ≡ two_of (q calls b) s t next n
  two-same calls a b n s t next same_s same_t =
      go_on-same n (p calls a s n) (q calls b s n) _ _ (up calls a s n) (same_s n (omega arith))
      (λ v m after. ap (λ e. go_on e (next v)) (same_t m after))

  each-same : (calls : ℕ) (a b : Environment) (k n : ℕ) (ts : List TermId) (next next' : List Value → Counted) → k ≤ n
      → AllByRecursion (SameAt calls a b k) ts → ((vs : List Value) (m : ℕ) → k ≤ m → next vs m ≡ next' vs m)
      → each_of (p calls a) ts next n ≡ each_of (q calls b) ts next' n
  each-same calls a b k n [] next next' before same same_next = same_next [] n before
  each-same calls a b k n (t ∷ ts) next next' before same same_next =
      go_on-same n (p calls a t n) (q calls b t n) _ _ (up calls a t n) (same.0 n before)
      (λ v m after. each-same calls a b k m ts (λ vs. next (v ∷ vs)) (λ vs. next' (v ∷ vs)) (omega arith) same.1
      (λ vs. same_next (v ∷ vs)))

  body-same : (calls n : ℕ) (d : Option FnDecl) (vs : List Value)
      → ((c : ℕ) (env : Environment) (t : TermId) → p c env t n ≡ q c env t n)
      → body_evaluation p calls d vs n ≡ body_evaluation q calls d vs n
  body-same calls n None vs same = refl
  body-same calls n (Some f) vs same =
      ap (λ e. cond (nat_lt calls max_calls) e (faults fault.Depth)) (same (calls + 1) (bind_arguments f vs) f.body)

  pub node-same : (calls : ℕ) (a b : Environment) (n : ℕ) (x : TermNode) → Needs calls a b n x
      → ((c : ℕ) (env : Environment) (t : TermId) → SameAt c env env n t)
      → node_evaluation lists p calls a x n ≡ node_evaluation lists q calls b x n
  node-same calls a b n (node.Number at k) same bodies = refl
  node-same calls a b n (node.Truth at c) same bodies = refl
  node-same calls a b n (node.Var at v) same bodies = ap (λ o. ends (unwrap_or o nought) n) same
  node-same calls a b n (node.Call at f values) same bodies =
      each-same calls a b n n values _ _ (omega arith) same
      (λ vs m after. body-same calls m (slice_get lists.fns f.0) vs (λ c env t. bodies c env t m after))
  node-same calls a b n (node.Nil at kind) same bodies = refl
  node-same calls a b n (node.Add at s t) same bodies =
      two-same calls a b n s t (on_numbers (λ x y. whole (x +ℤ y))) same.0 same.1
  node-same calls a b n (node.Sub at s t) same bodies =
      two-same calls a b n s t (on_numbers (λ x y. whole (x -ℤ y))) same.0 same.1
  node-same calls a b n (node.Mul at s t) same bodies =
      two-same calls a b n s t (on_numbers (λ x y. whole (x *ℤ y))) same.0 same.1
  node-same calls a b n (node.Div at s t) same bodies = two-same calls a b n s t (on_numbers divided) same.0 same.1
  node-same calls a b n (node.Rem at s t) same bodies =
      two-same calls a b n s t (on_numbers rest_of_division) same.0 same.1
  node-same calls a b n (node.Less at s t) same bodies =
      two-same calls a b n s t (on_numbers (λ x y. ends (truth (int_lt x y)))) same.0 same.1
  node-same calls a b n (node.Equal at s t) same bodies =
      two-same calls a b n s t (on_numbers (λ x y. ends (truth (same_number x y)))) same.0 same.1
  node-same calls a b n (node.Cons at s t) same bodies = two-same calls a b n s t (put_before) same.0 same.1
  node-same calls a b n (node.And at s t) same bodies =
      go_on-same n (p calls a s n) (q calls b s n) _ _ (up calls a s n) (same.0 n (omega arith))
      (λ v m after. both-same v _ _ m (same.1 m after))
  node-same calls a b n (node.Or at s t) same bodies =
      go_on-same n (p calls a s n) (q calls b s n) _ _ (up calls a s n) (same.0 n (omega arith))
      (λ v m after. either-same v _ _ m (same.1 m after))
  node-same calls a b n (node.Not at s) same bodies = ap (λ e. go_on e (λ v. ends (opposite v))) (same n (omega arith))
  node-same calls a b n (node.If at test s t) same bodies =
      go_on-same n (p calls a test n) (q calls b test n) _ _ (up calls a test n) (same.0 n (omega arith))
      (λ v m after. chosen-same v _ _ _ _ m (same.1 m after) (same.2 m after))
  node-same calls a b n (node.Match at taken empty head tail full) same bodies =
      go_on-same n (p calls a taken n) (q calls b taken n) _ _ (up calls a taken n) (same.0 n (omega arith))
      (λ v m after. taken-same v _ _ _ _ _ _ m (same.1 m after) (λ x y. same.3 x y m after) (same.2 m after))

  pub entered-same : (calls : ℕ) (a b : Environment) (n : ℕ) (x : Option TermNode)
      → ((y : TermNode) → x ≡ Some y → Needs calls a b n y)
      → ((c : ℕ) (env : Environment) (t : TermId) → SameAt c env env n t)
      → entered lists p calls a x n ≡ entered lists q calls b x n
  entered-same calls a b n None same bodies = refl
  entered-same calls a b n (Some x) same bodies = node-same calls a b n x (same x refl) bodies

  all-same : (calls n : ℕ) (env : Environment) (ts : List TermId)
      → ((c : ℕ) (e : Environment) (t : TermId) → SameAt c e e n t) → AllByRecursion (SameAt calls env env n) ts
  all-same calls n env [] same = tt
  all-same calls n env (t ∷ ts) same = (same calls env t, all-same calls n env ts same)

  -- what is needed, where all parts are the same
  pub needs-all : (calls : ℕ) (env : Environment) (n : ℕ) (x : TermNode)
      → ((c : ℕ) (e : Environment) (t : TermId) → SameAt c e e n t) → Needs calls env env n x
  needs-all calls env n (node.Number at k) same = tt
  needs-all calls env n (node.Truth at c) same = tt
  needs-all calls env n (node.Var at v) same = refl
  needs-all calls env n (node.Call at f values) same = all-same calls n env values same
  needs-all calls env n (node.Nil at kind) same = tt
  needs-all calls env n (node.Add at s t) same = (same calls env s, same calls env t)
  needs-all calls env n (node.Sub at s t) same = (same calls env s, same calls env t)
  needs-all calls env n (node.Mul at s t) same = (same calls env s, same calls env t)
  needs-all calls env n (node.Div at s t) same = (same calls env s, same calls env t)
  needs-all calls env n (node.Rem at s t) same = (same calls env s, same calls env t)
  needs-all calls env n (node.Less at s t) same = (same calls env s, same calls env t)
  needs-all calls env n (node.Equal at s t) same = (same calls env s, same calls env t)
  needs-all calls env n (node.And at s t) same = (same calls env s, same calls env t)
  needs-all calls env n (node.Or at s t) same = (same calls env s, same calls env t)
  needs-all calls env n (node.Cons at s t) same = (same calls env s, same calls env t)
  needs-all calls env n (node.Not at s) same = same calls env s
  needs-all calls env n (node.If at test s t) same = (same calls env test, same calls env s, same calls env t)
  needs-all calls env n (node.Match at taken empty head tail full) same = (
    same calls env taken,
    same calls env empty,
    same calls env full,
    λ x y. same calls (bind_parts head tail x y env) full,
  )
