-- The value of a typed term has its kind.
use Rattle.std.proofs.Common.{◌≡◌, ◌+◌, ℕ, zero, suc, ℤ, pos, negsuc, ◌+ℤ◌, ◌-ℤ◌, ◌*ℤ◌, Bool, true, false, cond, ◌==◌, nat_lt, nat_le, List, [], ◌∷◌, map, Option, Some, unwrap_or, slice_get, refl, sym, ap, ◌∙◌, subst, arith}
use Rattle.std.specs.Prelude.{int_div, int_lt}
use Rattle.std.specs.List.{zip}
use Rattle.nomos_ir.specs.declared.declaration.FnDecl.{FnDecl}
use Rattle.nomos_ir.specs.declared.fault.Fault.TheVariants as fault
use Rattle.nomos_ir.specs.declared.ids.TermId.{TermId}
use Rattle.nomos_ir.specs.declared.ids.VarId.{VarId}
use Rattle.nomos_ir.specs.declared.kind.Base.{Base}
use Rattle.nomos_ir.specs.declared.kind.Base.TheVariants as base
use Rattle.nomos_ir.specs.declared.kind.Kind.{Kind}
use Rattle.nomos_ir.specs.declared.lists.ProgramLists.{ProgramLists}
use Rattle.nomos_ir.specs.declared.term_node.TermNode.{TermNode}
use Rattle.nomos_ir.specs.Bindings.{bound_to}
use Rattle.nomos_ir.specs.Evaluation.{Environment, Evaluation, ends, faults, Counted, Evaluator, max_nodes, max_calls, go_on, nought, has_64_bits, whole, same_number, divided, rest_of_division, on_numbers, put_before, as_truth, both, either, opposite, chosen, taken_apart, bind_parts, bind_arguments, each_of, two_of, body_evaluation, node_evaluation, entered, counted, evaluation, term_evaluation}
use Rattle.nomos_ir.specs.TermKind.{VariableKinds, HasKind, NodeHasKind, HaveKinds, FunctionsAreTyped, int_kind, bool_kind, list_kind, with_parts}
use Rattle.nomos_ir.specs.TermKind as kind
use Rattle.nomos_ir.specs.Value.{Value, int, truth, list, ValueList, no_values, value}
use Rattle.nomos_ir.specs.ValueKind.{ValueHasKind, AllHaveKind, HasKinds}
use Rattle.nomos_ir.specs.Weight.{list_weight, max_weight}
use Rattle.nomos_ir.proofs.NodeLaws.{All-at}

-- the kinds are apart
int-no_bool : int_kind ≡ bool_kind → ⊥
int-no_bool same = let clash : base.Int ≡ base.Bool = ap (λ (k : Kind). k.base) same in cc

no_list : (b : Base) (e : Kind) → ◌≡◌ {A = Kind} (record { lists = 0; base = b }) (list_kind e) → ⊥
no_list b e same = let clash : 0 ≡ e.lists + 1 = ap (λ (k : Kind). k.lists) same in omega arith

same_element : (k e : Kind) → list_kind k ≡ list_kind e → k ≡ e
same_element k e same =
    let lists : k.lists ≡ e.lists = let more : k.lists + 1 ≡ e.lists + 1 = ap (λ (x : Kind). x.lists) same in
    omega arith in
    let bases : k.base ≡ e.base = ap (λ (x : Kind). x.base) same in
    ap (λ n. record { lists = n; base = k.base }) lists ∙ ap (λ b. record { lists = e.lists; base = b }) bases

-- an evaluation whose value has the kind
abbrev pub EndsInKind : Kind → Evaluation → Type 0
EndsInKind k (ends v n) = ValueHasKind v k
EndsInKind k (faults f) = Unit {0}

kind-go_on : (k l : Kind) (e : Evaluation) (next : Value → Counted) → EndsInKind k e
    → ((v : Value) (m : ℕ) → ValueHasKind v k → EndsInKind l (next v m)) → EndsInKind l (go_on e next)
kind-go_on k l (ends v m) next has more = more v m has
kind-go_on k l (faults f) next has more = tt

kind-whole : (z : ℤ) (n : ℕ) → EndsInKind int_kind (whole z n)
kind-whole z n = split (has_64_bits z)
  where
    split : (b : Bool) → EndsInKind int_kind (cond b (ends (int z) n) (faults fault.Overflow))
    split true = refl
    split false = tt

kind-divided : (x y : ℤ) (n : ℕ) → EndsInKind int_kind (divided x y n)
kind-divided x (pos zero) n = tt
kind-divided x (pos (suc y)) n = kind-whole (int_div x (pos (suc y))) n
kind-divided x (negsuc y) n = kind-whole (int_div x (negsuc y)) n

kind-rest : (x y : ℤ) (n : ℕ) → EndsInKind int_kind (rest_of_division x y n)
kind-rest x (pos zero) n = tt
kind-rest x (pos (suc y)) n = kind-whole (x -ℤ pos (suc y) *ℤ int_div x (pos (suc y))) n
kind-rest x (negsuc y) n = kind-whole (x -ℤ negsuc y *ℤ int_div x (negsuc y)) n

kind-numbers : (operator : ℤ → ℤ → Counted) → ((x y : ℤ) (n : ℕ) → EndsInKind int_kind (operator x y n))
    → (v w : Value) (n : ℕ) → EndsInKind int_kind (on_numbers operator v w n)
kind-numbers operator each (int x) (int y) n = each x y n
kind-numbers operator each (int x) (truth c) n = refl
kind-numbers operator each (int x) (list ys) n = refl
kind-numbers operator each (truth b) w n = refl
kind-numbers operator each (list xs) w n = refl

kind-compared : (test : ℤ → ℤ → Bool) (v w : Value) (n : ℕ) → ValueHasKind v int_kind → ValueHasKind w int_kind
    → EndsInKind bool_kind (on_numbers (λ x y. ends (truth (test x y))) v w n)
kind-compared test (int x) (int y) n has has_too = refl
kind-compared test (int x) (truth c) n has has_too = absurd (int-no_bool has_too)
kind-compared test (int x) (list ys) n has has_too = absurd (no_list base.Int has_too.0 has_too.1)
kind-compared test (truth b) w n has has_too = absurd (int-no_bool has)
kind-compared test (list xs) w n has has_too = absurd (no_list base.Int has.0 has.1)

kind-truth : (v : Value) → ValueHasKind v bool_kind → ValueHasKind (as_truth v) bool_kind
kind-truth (truth b) has = refl
kind-truth (int z) has = absurd (int-no_bool (sym has))
kind-truth (list vs) has = absurd (no_list base.Bool has.0 has.1)

kind-both : (v : Value) (right : Counted) (n : ℕ) → ValueHasKind v bool_kind → EndsInKind bool_kind (right n)
    → EndsInKind bool_kind (both v right n)
kind-both (truth true) right n has more =
    kind-go_on bool_kind bool_kind (right n) (λ w m. ends (as_truth w) m) more (λ w m. kind-truth w)
kind-both (truth false) right n has more = refl
kind-both (int z) right n has more = absurd (int-no_bool (sym has))
kind-both (list vs) right n has more = absurd (no_list base.Bool has.0 has.1)

kind-either : (v : Value) (right : Counted) (n : ℕ) → ValueHasKind v bool_kind → EndsInKind bool_kind (right n)
    → EndsInKind bool_kind (either v right n)
kind-either (truth true) right n has more = refl
kind-either (truth false) right n has more =
    kind-go_on bool_kind bool_kind (right n) (λ w m. ends (as_truth w) m) more (λ w m. kind-truth w)
kind-either (int z) right n has more = absurd (int-no_bool (sym has))
kind-either (list vs) right n has more = absurd (no_list base.Bool has.0 has.1)

kind-opposite : (v : Value) → ValueHasKind v bool_kind → ValueHasKind (opposite v) bool_kind
kind-opposite (truth b) has = refl
kind-opposite (int z) has = absurd (int-no_bool (sym has))
kind-opposite (list vs) has = absurd (no_list base.Bool has.0 has.1)

kind-chosen : (k : Kind) (v : Value) (right wrong : Counted) (n : ℕ) → EndsInKind k (right n) → EndsInKind k (wrong n)
    → EndsInKind k (chosen v right wrong n)
kind-chosen k (truth true) right wrong n has has_too = has
kind-chosen k (truth false) right wrong n has has_too = has_too
kind-chosen k (int z) right wrong n has has_too = has_too
kind-chosen k (list vs) right wrong n has has_too = has_too

-- what is known of a list, under the name of its elements' kind
kind-elements : (k : Kind) (vs : ValueList) → ValueHasKind (list vs) (list_kind k) → AllHaveKind vs k
kind-elements k vs (e, same, all) =
    let P : Kind → Type 0 = λ x. AllHaveKind vs x in subst P (sym (same_element k e same)) all

kind-put : (k : Kind) (v w : Value) (n : ℕ) → ValueHasKind v k → ValueHasKind w (list_kind k)
    → EndsInKind (list_kind k) (put_before v w n)
kind-put k v (list ys) n has has_too = split (nat_le (list_weight (value v ys)) max_weight)
  where
    split : (b : Bool) → EndsInKind (list_kind k) (cond b (ends (list (value v ys)) n) (faults fault.ListLength))
    split true = (k, refl, (has, kind-elements k ys has_too))
    split false = tt
kind-put k v (int z) n has has_too = absurd (no_list base.Int k (sym has_too))
kind-put k v (truth b) n has has_too = absurd (no_list base.Bool k (sym has_too))

kind-taken : (e k : Kind) (v : Value) (empty : Counted) (full : Value → Value → Counted) (other : Counted) (n : ℕ)
    → ValueHasKind v (list_kind e) → EndsInKind k (empty n)
    → ((x y : Value) → ValueHasKind x e → ValueHasKind y (list_kind e) → EndsInKind k (full x y n))
    → EndsInKind k (taken_apart v empty full other n)
kind-taken e k (list no_values) empty full other n has at_empty at_full = at_empty
kind-taken e k (list (value x xs)) empty full other n has at_empty at_full =
    let all = kind-elements e (value x xs) has in at_full x (list xs) all.0 (e, refl, all.1)
kind-taken e k (int z) empty full other n has at_empty at_full = absurd (no_list base.Int e (sym has))
kind-taken e k (truth b) empty full other n has at_empty at_full = absurd (no_list base.Bool e (sym has))

-- a variable more
has-cons : (w : VarId) (x : Value) (k : Kind) (env : Environment) (vars : VariableKinds) → ValueHasKind x k
    → HasKinds env vars → HasKinds ((w, x) ∷ env) ((w, k) ∷ vars)
has-cons w x k env vars has rest v l found = split (w.0 == v) found
  where
    split : (b : Bool) → cond b (Some k) (bound_to v vars) ≡ Some l
        → (y : Value) × (cond b (Some x) (bound_to v env) ≡ Some y) × ValueHasKind y l
    split true e = let P : Kind → Type 0 = λ m. ValueHasKind x m in let same : k ≡ l = cc in (x, refl, subst P same has)
    split false e = rest v l e

-- the arguments have the kinds of the parameters
abbrev AllOf : List Value → VariableKinds → Type 0
AllOf [] [] = Unit {0}
AllOf [] (par ∷ pars) = ⊥
AllOf (v ∷ vs) [] = ⊥
AllOf (v ∷ vs) (par ∷ pars) = ValueHasKind v par.1 × AllOf vs pars

has-arguments : (pars : VariableKinds) (vs : List Value) → AllOf vs pars
    → HasKinds (zip (map (λ par. par.0) pars) vs) pars
has-arguments [] vs all = λ v k found. absurd cc
has-arguments (par ∷ pars) [] all = absurd all
has-arguments (par ∷ pars) (x ∷ vs) all =
    has-cons par.0 x par.1 (zip (map (λ p. p.0) pars) vs) pars all.0 (has-arguments pars vs all.1)

kind-bound : (v : ℕ) (env : Environment) (k : Kind) (w : Value) → bound_to v env ≡ Some w → ValueHasKind w k
    → ValueHasKind (unwrap_or (bound_to v env) nought) k
kind-bound v env k w found has =
    let P : Option Value → Type 0 = λ o. ValueHasKind (unwrap_or o nought) k in subst P (sym found) has

module _ (lists : ProgramLists) (typed : FunctionsAreTyped lists) where
  -- evaluations of typed parts end in their kinds
  abbrev TypedParts : Evaluator → Type 0
  TypedParts part =
      (calls : ℕ) (env : Environment) (vars : VariableKinds) (t : TermId) (n : ℕ) (k : Kind) → HasKinds env vars
      → HasKind lists vars t k → EndsInKind k (part calls env t n)

  kind-each : (part : Evaluator) → TypedParts part
      → (calls : ℕ) (env : Environment) (vars : VariableKinds) (ts : List TermId) (pars : VariableKinds)
      (next : List Value → Counted) (n : ℕ) (k : Kind) → HasKinds env vars → HaveKinds lists vars ts pars
      → ((vs : List Value) (m : ℕ) → AllOf vs pars → EndsInKind k (next vs m))
      → EndsInKind k (each_of (part calls env) ts next n)
  kind-each part each calls env vars ts pars next n k has (kind.none _) more = more [] n tt
  kind-each part each calls env vars ts pars next n k has (kind.more _ t others par rest of_kind have) more =
      kind-go_on par.1 k (part calls env t n) _ (each calls env vars t n par.1 has of_kind)
      (λ v m has_v. kind-each part each calls env vars others rest (λ vs. next (v ∷ vs)) m k has have
      (λ vs j all. more (v ∷ vs) j (has_v, all)))

  kind-two : (part : Evaluator) → TypedParts part
      → (calls : ℕ) (env : Environment) (vars : VariableKinds) (a b : TermId) (ka kb k : Kind)
      (next : Value → Value → Counted) (n : ℕ) → HasKinds env vars → HasKind lists vars a ka → HasKind lists vars b kb
      → ((v w : Value) (m : ℕ) → ValueHasKind v ka → ValueHasKind w kb → EndsInKind k (next v w m))
      → EndsInKind k (two_of (part calls env) a b next n)
  kind-two part each calls env vars a b ka kb k next n has of_a of_b more =
      kind-go_on ka k (part calls env a n) _ (each calls env vars a n ka has of_a)
      (λ v m has_v. kind-go_on kb k (part calls env b m) (next v) (each calls env vars b m kb has of_b)
      (λ w j has_w. more v w j has_v has_w))

  kind-body : (part : Evaluator) → TypedParts part → (calls : ℕ) (f : ℕ) (d : FnDecl) (vs : List Value) (n : ℕ)
      → slice_get lists.fns f ≡ Some d → AllOf vs d.pars → EndsInKind d.gives (body_evaluation part calls (Some d) vs n)
  kind-body part each calls f d vs n there all = split (nat_lt calls max_calls)
    where
      split : (b : Bool) → EndsInKind d.gives
          (cond b (part (calls + 1) (bind_arguments d vs) d.body n) (faults fault.Depth))
      split true =
          each (calls + 1) (bind_arguments d vs) d.pars d.body n d.gives (has-arguments d.pars vs all)
          (All-at (λ g. HasKind lists g.pars g.body g.gives) lists.fns f d typed there)
      split false = tt

  kind-node : (part : Evaluator) → TypedParts part
      → (calls : ℕ) (env : Environment) (vars : VariableKinds) (x : TermNode) (n : ℕ) (k : Kind) → HasKinds env vars
      → NodeHasKind lists vars x k → EndsInKind k (node_evaluation lists part calls env x n)
  kind-node part each calls env vars x n k has (kind.number _ at m) = refl
  kind-node part each calls env vars x n k has (kind.truth _ at b) = refl
  kind-node part each calls env vars x n k has (kind.variable _ at v _ found) =
      let held = has v.0 k found in kind-bound v.0 env k held.0 held.1 held.2
  kind-node part each calls env vars x n k has (kind.call _ at f values d _ there have given) =
      let P : Option FnDecl → Type 0 = λ o.
      EndsInKind k (each_of (part calls env) values (body_evaluation part calls o) n) in
      let K : Kind → Type 0 = λ l. EndsInKind l
      (each_of (part calls env) values (body_evaluation part calls (Some d)) n) in
      subst P (sym there) (subst K given
      (kind-each part each calls env vars values d.pars _ n d.gives has have
      (λ vs m all. kind-body part each calls f.0 d vs m there all)))
  kind-node part each calls env vars x n k has (kind.nil _ at e) = (e, refl, tt)
  kind-node part each calls env vars x n k has (kind.plus _ at a b of_a of_b) =
      kind-two part each calls env vars a b int_kind int_kind int_kind _ n has of_a of_b
      (λ v w m _ _. kind-numbers (λ x y. whole (x +ℤ y)) (λ x y. kind-whole (x +ℤ y)) v w m)
  kind-node part each calls env vars x n k has (kind.minus _ at a b of_a of_b) =
      kind-two part each calls env vars a b int_kind int_kind int_kind _ n has of_a of_b
      (λ v w m _ _. kind-numbers (λ x y. whole (x -ℤ y)) (λ x y. kind-whole (x -ℤ y)) v w m)
  kind-node part each calls env vars x n k has (kind.times _ at a b of_a of_b) =
      kind-two part each calls env vars a b int_kind int_kind int_kind _ n has of_a of_b
      (λ v w m _ _. kind-numbers (λ x y. whole (x *ℤ y)) (λ x y. kind-whole (x *ℤ y)) v w m)
  kind-node part each calls env vars x n k has (kind.quotient _ at a b of_a of_b) =
      kind-two part each calls env vars a b int_kind int_kind int_kind _ n has of_a of_b
      (λ v w m _ _. kind-numbers divided kind-divided v w m)
  kind-node part each calls env vars x n k has (kind.remainder _ at a b of_a of_b) =
      kind-two part each calls env vars a b int_kind int_kind int_kind _ n has of_a of_b
      (λ v w m _ _. kind-numbers rest_of_division kind-rest v w m)
  kind-node part each calls env vars x n k has (kind.less _ at a b of_a of_b) =
      kind-two part each calls env vars a b int_kind int_kind bool_kind _ n has of_a of_b (kind-compared int_lt)
  kind-node part each calls env vars x n k has (kind.equal _ at a b of_a of_b) =
      kind-two part each calls env vars a b int_kind int_kind bool_kind _ n has of_a of_b (kind-compared same_number)
  kind-node part each calls env vars x n k has (kind.and _ at a b of_a of_b) =
      kind-go_on bool_kind bool_kind (part calls env a n) _ (each calls env vars a n bool_kind has of_a)
      (λ v m has_v. kind-both v _ m has_v (each calls env vars b m bool_kind has of_b))
  kind-node part each calls env vars x n k has (kind.or _ at a b of_a of_b) =
      kind-go_on bool_kind bool_kind (part calls env a n) _ (each calls env vars a n bool_kind has of_a)
      (λ v m has_v. kind-either v _ m has_v (each calls env vars b m bool_kind has of_b))
  kind-node part each calls env vars x n k has (kind.cons _ at a b e of_a of_b) =
      kind-two part each calls env vars a b e (list_kind e) (list_kind e) put_before n has of_a of_b (kind-put e)
  kind-node part each calls env vars x n k has (kind.not _ at a of_a) =
      kind-go_on bool_kind bool_kind (part calls env a n) _ (each calls env vars a n bool_kind has of_a)
      (λ v m. kind-opposite v)
  kind-node part each calls env vars x n k has (kind.choice _ at test a b _ of_test of_a of_b) =
      kind-go_on bool_kind k (part calls env test n) _ (each calls env vars test n bool_kind has of_test)
      (λ v m _. kind-chosen k v _ _ m (each calls env vars a m k has of_a) (each calls env vars b m k has of_b))
  kind-node part each calls env vars x n k has
      (kind.parts _ at taken empty full head tail e _ of_list of_empty of_full) =
      kind-go_on (list_kind e) k (part calls env taken n) _ (each calls env vars taken n (list_kind e) has of_list)
      (λ v m has_v.
      kind-taken e k v _ _ _ m has_v (each calls env vars empty m k has of_empty) (λ y ys has_y has_ys.
      each calls (bind_parts head tail y ys env) (with_parts head tail e vars) full m k
      (has-cons tail ys (list_kind e) ((head, y) ∷ env) ((head, e) ∷ vars) has_ys
      (has-cons head y e env vars has_y has)) of_full))

  -- a typed term ends in its kind, wherever it is evaluated
  kind-inside : (inside : ℕ) → TypedParts (evaluation lists inside)
  unfolding evaluation
  kind-inside zero calls env vars t n k has of_kind = tt
  kind-inside (suc inside) calls env vars t n k has (kind.term _ _ _ x there of_node) =
      split (nat_lt n max_nodes) (let P : Option TermNode
      → Type 0 = λ o. EndsInKind k (entered lists (evaluation lists inside) calls env o (n + 1)) in subst P
      (sym there) (kind-node (evaluation lists inside) (kind-inside inside) calls env vars x (n + 1) k has of_node))
    where
      split : (b : Bool) → EndsInKind k
          (entered lists (evaluation lists inside) calls env (slice_get lists.terms t.0) (n + 1))
          → EndsInKind k (counted b (entered lists (evaluation lists inside) calls env (slice_get lists.terms t.0)) n)
      split true ended = ended
      split false ended = tt

  -- the value of a typed term has its kind
  pub evaluation-kind : (env : Environment) (vars : VariableKinds) (t : TermId) (k : Kind) (v : Value) (n : ℕ)
      → HasKinds env vars → HasKind lists vars t k → term_evaluation lists env t ≡ ends v n → ValueHasKind v k
  unfolding term_evaluation
  evaluation-kind env vars t k v n has of_kind ended =
      let P : Evaluation → Type 0 = λ e. EndsInKind k e in
      subst P ended (kind-inside (max_nodes + 1) 0 env vars t 0 k has of_kind)
