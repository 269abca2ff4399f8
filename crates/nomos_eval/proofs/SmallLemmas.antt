-- What small tests and small terms come to.
use Rattle.std.proofs.Common.{◌≡◌, ◌+◌, ◌<◌, ℕ, ℤ, ◌+ℤ◌, ◌-ℤ◌, ◌*ℤ◌, Bool, true, nat_lt, Option, Some, None, Result, slice_get, refl, sym, ap, ◌∙◌, subst, arith, tests, rules}
use Rattle.nomos_ir.specs.declared.ids.TermId.{TermId}
use Rattle.nomos_ir.specs.declared.ids.VarId.{VarId}
use Rattle.nomos_ir.specs.declared.lists.ProgramLists.{ProgramLists}
use Rattle.nomos_ir.specs.declared.term_node.TermNode.{TermNode}
use Rattle.nomos_ir.specs.declared.term_node.TermNode.TheVariants as node
use Rattle.nomos_ir.specs.Bindings.{bound_to}
use Rattle.nomos_ir.specs.Evaluation.{Counted, Environment, Evaluation, Evaluator, divided, ends, go_on, entered, counted, max_nodes, node_evaluation, nought, on_numbers, rest_of_division, same_number, term_evaluation, whole}
use Rattle.nomos_ir.specs.Value.{Value, int, truth, list, truth_in}
use Rattle.nomos_ir.proofs.EvaluationLaws.{evaluation_from, evaluation-step, evaluation-whole}
use Rattle.std.specs.Prelude.{int_lt, unwrap_or}
use Rattle.nomos_ir.specs.declared.fault.Fault.{Fault}
use Rattle.nomos_ir.specs.declared.or_no_memory.OrNoMemory.{OrNoMemory}
use Rattle.nomos_ir.specs.declared.value_node.ValueNode.{ValueNode}
use Rattle.nomos_eval.specs.declared.numbers.NumberOperator.{NumberOperator}
use Rattle.nomos_eval.specs.declared.numbers.NumberOperator.TheVariants as operator
use Rattle.nomos_eval.specs.declared.small.SmallPart.{SmallPart}
use Rattle.nomos_eval.specs.declared.small.SmallPart.TheVariants as part
use Rattle.nomos_eval.specs.SmallTest.{Decides, IsSmallNode, IsSmallPart, IsSmallTest}
use Rattle.nomos_eval.specs.mirror.Operation.{operation, operation_node}
use Rattle.nomos_eval.specs.mirror.SmallPart.{IsNumber, equal_parts, less_parts, part_of, part_value}
use Rattle.nomos_eval.specs.mirror.TermsFound.{IsValue}

-- a number or a variable that was entered
entered-part : (lists : ProgramLists) (inner : Evaluator) (env : Environment) (o : Option TermNode) (n : ℕ)
    → IsSmallPart o → entered lists inner 0 env o n ≡ ends (part_value env o) n
entered-part lists inner env (Some (node.Number at k)) n small = refl
entered-part lists inner env (Some (node.Var at v)) n small = refl
entered-part lists inner env (Some (node.Truth at b)) n small = absurd small
entered-part lists inner env (Some (node.Call at f values)) n small = absurd small
entered-part lists inner env (Some (node.Nil at kind)) n small = absurd small
entered-part lists inner env (Some (node.Add at a b)) n small = absurd small
entered-part lists inner env (Some (node.Sub at a b)) n small = absurd small
entered-part lists inner env (Some (node.Mul at a b)) n small = absurd small
entered-part lists inner env (Some (node.Div at a b)) n small = absurd small
entered-part lists inner env (Some (node.Rem at a b)) n small = absurd small
entered-part lists inner env (Some (node.Less at a b)) n small = absurd small
entered-part lists inner env (Some (node.Equal at a b)) n small = absurd small
entered-part lists inner env (Some (node.And at a b)) n small = absurd small
entered-part lists inner env (Some (node.Or at a b)) n small = absurd small
entered-part lists inner env (Some (node.Cons at a b)) n small = absurd small
entered-part lists inner env (Some (node.Not at a)) n small = absurd small
entered-part lists inner env (Some (node.If at test a b)) n small = absurd small
entered-part lists inner env (Some (node.Match at taken empty head tail full)) n small = absurd small
entered-part lists inner env None n small = absurd small

-- a term that is entered while nodes may be
entered-there : (lists : ProgramLists) (env : Environment) (t : TermId) (n : ℕ) → n < max_nodes
    → evaluation_from lists 0 env t n
    ≡ entered lists (evaluation_from lists) 0 env (slice_get lists.terms t.0) (n + 1)
entered-there lists env t n few =
    let within : nat_lt n max_nodes ≡ true = search (tests, rules, few) in
    evaluation-step lists 0 env t n
    ∙ ap (λ b. counted b (entered lists (evaluation_from lists) 0 env (slice_get lists.terms t.0)) n) within

part-ends : (lists : ProgramLists) (env : Environment) (t : TermId) (n : ℕ) → n < max_nodes
    → IsSmallPart (slice_get lists.terms t.0)
    → evaluation_from lists 0 env t n ≡ ends (part_value env (slice_get lists.terms t.0)) (n + 1)
part-ends lists env t n few small =
    entered-there lists env t n few
    ∙ entered-part lists (evaluation_from lists) env (slice_get lists.terms t.0) (n + 1) small

-- two parts, one after the other
both-end : (lists : ProgramLists) (env : Environment) (a b : TermId) (next : Value → Value → ℕ → Evaluation)
    → IsSmallPart (slice_get lists.terms a.0) → IsSmallPart (slice_get lists.terms b.0)
    → go_on (evaluation_from lists 0 env a 1) (λ v m. go_on (evaluation_from lists 0 env b m) (next v))
    ≡ next (part_value env (slice_get lists.terms a.0)) (part_value env (slice_get lists.terms b.0)) 3
both-end lists env a b next left right =
    ap (λ e. go_on e (λ v m. go_on (evaluation_from lists 0 env b m) (next v)))
    (part-ends lists env a 1 (omega arith) left)
    ∙ ap (λ e. go_on e (next (part_value env (slice_get lists.terms a.0))))
    (part-ends lists env b 2 (omega arith) right)

-- what the operators say of two values
less-decides : (x y : Value) (n : ℕ)
    → Decides (on_numbers (λ p q. ends (truth (int_lt p q))) x y n) (less_parts (part_of x) (part_of y))
less-decides (int x) (int y) n = record { value = truth (int_lt x y); nodes = n; ended = refl; taken = refl }
less-decides (int x) (truth c) n = record { value = nought; nodes = n; ended = refl; taken = refl }
less-decides (int x) (list ys) n = record { value = nought; nodes = n; ended = refl; taken = refl }
less-decides (truth b) y n = record { value = nought; nodes = n; ended = refl; taken = refl }
less-decides (list xs) y n = record { value = nought; nodes = n; ended = refl; taken = refl }

equal-decides : (x y : Value) (n : ℕ)
    → Decides (on_numbers (λ p q. ends (truth (same_number p q))) x y n) (equal_parts (part_of x) (part_of y))
equal-decides (int x) (int y) n = record { value = truth (same_number x y); nodes = n; ended = refl; taken = refl }
equal-decides (int x) (truth c) n = record { value = nought; nodes = n; ended = refl; taken = refl }
equal-decides (int x) (list ys) n = record { value = nought; nodes = n; ended = refl; taken = refl }
equal-decides (truth b) y n = record { value = nought; nodes = n; ended = refl; taken = refl }
equal-decides (list xs) y n = record { value = nought; nodes = n; ended = refl; taken = refl }

-- what a term comes to is what the node comes to that it enters
pub whole-enters : (lists : ProgramLists) (env : Environment) (t : TermId) (o : Option TermNode) (e : Evaluation)
    → slice_get lists.terms t.0 ≡ o → entered lists (evaluation_from lists) 0 env o 1 ≡ e
    → term_evaluation lists env t ≡ e
whole-enters lists env t o e is enters =
    evaluation-whole lists env t ∙ entered-there lists env t 0 (omega arith)
    ∙ ap (λ n. entered lists (evaluation_from lists) 0 env n 1) is ∙ enters

-- what is decided of a term is what is decided of the node that it enters
whole-decides : (lists : ProgramLists) (env : Environment) (t : TermId) (o : Option TermNode) (e : Evaluation)
    (first said : Bool) → slice_get lists.terms t.0 ≡ o → entered lists (evaluation_from lists) 0 env o 1 ≡ e
    → first ≡ said → Decides e said → Decides (term_evaluation lists env t) first
whole-decides lists env t o e first said is enters same decided =
    record {
      value = decided.value;
      nodes = decided.nodes;
      ended = whole-enters lists env t o e is enters ∙ decided.ended;
      taken = same ∙ decided.taken;
    }

module _ (lists : ProgramLists) (env : Environment) (t : TermId) where
  small-from : (o : Option TermNode) → slice_get lists.terms t.0 ≡ o → IsSmallNode lists o → IsSmallTest lists t.0
  small-from o is small =
      let P : Option TermNode → Type 0 = λ n. IsSmallNode lists n in subst P (sym is) small

  pub small-variable : (at : ℕ) (v : VarId) (first : Bool) → slice_get lists.terms t.0 ≡ Some (node.Var at v)
      → first ≡ truth_in (unwrap_or (bound_to v.0 env) nought)
      → IsSmallTest lists t.0 × Decides (term_evaluation lists env t) first
  small-variable at v first is same = (
    small-from (Some (node.Var at v)) is tt,
    whole-decides lists env t (Some (node.Var at v)) _ first
        (truth_in (unwrap_or (bound_to v.0 env) nought)) is refl same
        (record { value = unwrap_or (bound_to v.0 env) nought; nodes = 1; ended = refl; taken = refl }),
  )

  pub small-less : (at : ℕ) (a b : TermId) (x y : SmallPart) (first : Bool)
      → slice_get lists.terms t.0 ≡ Some (node.Less at a b) → IsSmallPart (slice_get lists.terms a.0)
      → x ≡ part_of (part_value env (slice_get lists.terms a.0)) → IsSmallPart (slice_get lists.terms b.0)
      → y ≡ part_of (part_value env (slice_get lists.terms b.0)) → first ≡ less_parts x y
      → IsSmallTest lists t.0 × Decides (term_evaluation lists env t) first
  small-less at a b x y first is left x_is right y_is same =
      let v = part_value env (slice_get lists.terms a.0) in
      let w = part_value env (slice_get lists.terms b.0) in (
        small-from (Some (node.Less at a b)) is (left, right),
        whole-decides lists env t (Some (node.Less at a b))
            (on_numbers (λ p q. ends (truth (int_lt p q))) v w 3) first (less_parts (part_of v) (part_of w)) is
            (both-end lists env a b (on_numbers (λ p q. ends (truth (int_lt p q)))) left right)
            (same ∙ ap (λ p. less_parts p y) x_is ∙ ap (λ q. less_parts (part_of v) q) y_is)
            (less-decides v w 3),
      )

  pub small-equal : (at : ℕ) (a b : TermId) (x y : SmallPart) (first : Bool)
      → slice_get lists.terms t.0 ≡ Some (node.Equal at a b) → IsSmallPart (slice_get lists.terms a.0)
      → x ≡ part_of (part_value env (slice_get lists.terms a.0)) → IsSmallPart (slice_get lists.terms b.0)
      → y ≡ part_of (part_value env (slice_get lists.terms b.0)) → first ≡ equal_parts x y
      → IsSmallTest lists t.0 × Decides (term_evaluation lists env t) first
  small-equal at a b x y first is left x_is right y_is same =
      let v = part_value env (slice_get lists.terms a.0) in
      let w = part_value env (slice_get lists.terms b.0) in (
        small-from (Some (node.Equal at a b)) is (left, right),
        whole-decides lists env t (Some (node.Equal at a b))
            (on_numbers (λ p q. ends (truth (same_number p q))) v w 3) first (equal_parts (part_of v) (part_of w)) is
            (both-end lists env a b (on_numbers (λ p q. ends (truth (same_number p q)))) left right)
            (same ∙ ap (λ p. equal_parts p y) x_is ∙ ap (λ q. equal_parts (part_of v) q) y_is)
            (equal-decides v w 3),
      )

-- ---- what small terms come to

-- what is answered of the node that a term enters is answered of the term
pub value-enters : (lists : ProgramLists) (env : Environment) (t : TermId) (o : Option TermNode) (e : Evaluation)
    (r : Result ValueNode (OrNoMemory Fault)) → slice_get lists.terms t.0 ≡ o
    → entered lists (evaluation_from lists) 0 env o 1 ≡ e → IsValue r e → IsValue r (term_evaluation lists env t)
value-enters lists env t o e r is enters said =
    let P : Evaluation → Type 0 = λ f. IsValue r f in subst P (sym (whole-enters lists env t o e is enters)) said

-- two numbers, and what is done with them
numbers-end : (lists : ProgramLists) (env : Environment) (a b : TermId) (next : ℤ → ℤ → Counted) (x y : ℤ)
    → IsNumber env (slice_get lists.terms a.0) x → IsNumber env (slice_get lists.terms b.0) y
    → go_on (evaluation_from lists 0 env a 1) (λ v m. go_on (evaluation_from lists 0 env b m) (on_numbers next v))
    ≡ next x y 3
numbers-end lists env a b next x y left right =
    both-end lists env a b (on_numbers next) left.0 right.0
    ∙ ap (λ v. on_numbers next v (part_value env (slice_get lists.terms b.0)) 3) left.1
    ∙ ap (λ w. on_numbers next (int x) w 3) right.1

-- an operator between two numbers
pub operator-comes : (lists : ProgramLists) (env : Environment) (o : NumberOperator) (at : ℕ) (a b : TermId) (x y : ℤ)
    → IsNumber env (slice_get lists.terms a.0) x → IsNumber env (slice_get lists.terms b.0) y
    → node_evaluation lists (evaluation_from lists) 0 env (operation_node o at a b) 1 ≡ operation o x y 3
operator-comes lists env operator.Add at a b x y left right =
    numbers-end lists env a b (λ p q. whole (p +ℤ q)) x y left right
operator-comes lists env operator.Sub at a b x y left right =
    numbers-end lists env a b (λ p q. whole (p -ℤ q)) x y left right
operator-comes lists env operator.Mul at a b x y left right =
    numbers-end lists env a b (λ p q. whole (p *ℤ q)) x y left right
operator-comes lists env operator.Div at a b x y left right = numbers-end lists env a b divided x y left right
operator-comes lists env operator.Rem at a b x y left right = numbers-end lists env a b rest_of_division x y left right
operator-comes lists env operator.Less at a b x y left right =
    numbers-end lists env a b (λ p q. ends (truth (int_lt p q))) x y left right
operator-comes lists env operator.Equal at a b x y left right =
    numbers-end lists env a b (λ p q. ends (truth (same_number p q))) x y left right
