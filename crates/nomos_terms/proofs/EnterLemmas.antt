-- What each form of term leads to.
use Rattle.std.proofs.Common.{◌≡◌, ◌+◌, ◌<◌, ℕ, suc, List, [], ◌∷◌, ◌++◌, length, Some, slice_get, append_assoc, refl, sym, ap, subst, arith}
use Rattle.std.specs.List.{sum_by}
use Rattle.nomos_ir.specs.Bindings.{bound_to}
use Rattle.nomos_ir.specs.declared.declaration.FnDecl.{FnDecl}
use Rattle.nomos_ir.specs.declared.ids.FnId.{FnId}
use Rattle.nomos_ir.specs.declared.ids.TermId.{TermId}
use Rattle.nomos_ir.specs.declared.ids.VarId.{VarId}
use Rattle.nomos_ir.specs.declared.kind.Kind.{Kind}
use Rattle.nomos_ir.specs.declared.lists.ProgramLists.{ProgramLists}
use Rattle.nomos_ir.specs.declared.term_node.TermNode.{TermNode}
use Rattle.nomos_ir.specs.declared.term_node.TermNode.TheVariants as node
use Rattle.nomos_ir.specs.Program.{IsProgram}
use Rattle.nomos_ir.specs.TermKind.{VariableKinds, HasKind, NodeHasKind, HaveKinds, int_kind, bool_kind, list_kind, with_parts}
use Rattle.nomos_ir.specs.TermKind as kind
use Rattle.nomos_ir.specs.TermParts.{term_parts}
use Rattle.nomos_ir.proofs.TermKindLaws.{HasKind-unique}
use Rattle.nomos_terms.specs.declared.search.Search.{Search}
use Rattle.nomos_terms.specs.declared.search.Task.{Task}
use Rattle.nomos_terms.specs.declared.search.Task.TheVariants as task
use Rattle.nomos_terms.specs.mirror.Left.{Leads, IsDone, IsVain, term_steps, work, argument_tasks}
use Rattle.nomos_terms.proofs.WorkLemmas.{steps-some, steps-there, arguments-work, work-append}

-- a kind that a derivation gives is that of its node
pub node_of : (lists : ProgramLists) (vars : VariableKinds) (t : TermId) (n : TermNode) (k : Kind)
    → slice_get lists.terms t.0 ≡ Some n → HasKind lists vars t k → NodeHasKind lists vars n k
node_of lists vars t n k found (kind.term _ _ _ m there has) =
    let P : TermNode → Type 0 = λ x. NodeHasKind lists vars x k in
    let same : m ≡ n = cc in subst P same has

-- what the kinds of operators rest on
module _ (lists : ProgramLists) (vars : VariableKinds) where
  pub apart_plus : (at : ℕ) (a b : TermId) (k : Kind) → NodeHasKind lists vars (node.Add at a b) k
      → (k ≡ int_kind) × HasKind lists vars a int_kind × HasKind lists vars b int_kind
  apart_plus at a b k (kind.plus _ _ _ _ x y) = (refl, x, y)

  pub apart_minus : (at : ℕ) (a b : TermId) (k : Kind) → NodeHasKind lists vars (node.Sub at a b) k
      → (k ≡ int_kind) × HasKind lists vars a int_kind × HasKind lists vars b int_kind
  apart_minus at a b k (kind.minus _ _ _ _ x y) = (refl, x, y)

  pub apart_times : (at : ℕ) (a b : TermId) (k : Kind) → NodeHasKind lists vars (node.Mul at a b) k
      → (k ≡ int_kind) × HasKind lists vars a int_kind × HasKind lists vars b int_kind
  apart_times at a b k (kind.times _ _ _ _ x y) = (refl, x, y)

  pub apart_quotient : (at : ℕ) (a b : TermId) (k : Kind) → NodeHasKind lists vars (node.Div at a b) k
      → (k ≡ int_kind) × HasKind lists vars a int_kind × HasKind lists vars b int_kind
  apart_quotient at a b k (kind.quotient _ _ _ _ x y) = (refl, x, y)

  pub apart_remainder : (at : ℕ) (a b : TermId) (k : Kind) → NodeHasKind lists vars (node.Rem at a b) k
      → (k ≡ int_kind) × HasKind lists vars a int_kind × HasKind lists vars b int_kind
  apart_remainder at a b k (kind.remainder _ _ _ _ x y) = (refl, x, y)

  pub apart_less : (at : ℕ) (a b : TermId) (k : Kind) → NodeHasKind lists vars (node.Less at a b) k
      → (k ≡ bool_kind) × HasKind lists vars a int_kind × HasKind lists vars b int_kind
  apart_less at a b k (kind.less _ _ _ _ x y) = (refl, x, y)

  pub apart_equal : (at : ℕ) (a b : TermId) (k : Kind) → NodeHasKind lists vars (node.Equal at a b) k
      → (k ≡ bool_kind) × HasKind lists vars a int_kind × HasKind lists vars b int_kind
  apart_equal at a b k (kind.equal _ _ _ _ x y) = (refl, x, y)

  pub apart_and : (at : ℕ) (a b : TermId) (k : Kind) → NodeHasKind lists vars (node.And at a b) k
      → (k ≡ bool_kind) × HasKind lists vars a bool_kind × HasKind lists vars b bool_kind
  apart_and at a b k (kind.and _ _ _ _ x y) = (refl, x, y)

  pub apart_or : (at : ℕ) (a b : TermId) (k : Kind) → NodeHasKind lists vars (node.Or at a b) k
      → (k ≡ bool_kind) × HasKind lists vars a bool_kind × HasKind lists vars b bool_kind
  apart_or at a b k (kind.or _ _ _ _ x y) = (refl, x, y)

  -- what the kinds of other forms rest on
  pub apart_cons : (at : ℕ) (a b : TermId) (k : Kind) → NodeHasKind lists vars (node.Cons at a b) k
      → (e : Kind) × (k ≡ list_kind e) × HasKind lists vars a e × HasKind lists vars b (list_kind e)
  apart_cons at a b k (kind.cons _ _ _ _ e x y) = (e, refl, x, y)

  pub apart_not : (at : ℕ) (a : TermId) (k : Kind) → NodeHasKind lists vars (node.Not at a) k
      → (k ≡ bool_kind) × HasKind lists vars a bool_kind
  apart_not at a k (kind.not _ _ _ x) = (refl, x)

  pub apart_choice : (at : ℕ) (test a b : TermId) (k : Kind) → NodeHasKind lists vars (node.If at test a b) k
      → HasKind lists vars test bool_kind × HasKind lists vars a k × HasKind lists vars b k
  apart_choice at test a b k (kind.choice _ _ _ _ _ _ x y z) = (x, y, z)

  pub apart_parts : (at : ℕ) (taken empty full : TermId) (head tail : VarId) (k : Kind)
      → NodeHasKind lists vars (node.Match at taken empty head tail full) k
      → (e : Kind) × HasKind lists vars taken (list_kind e) × HasKind lists vars empty k
      × HasKind lists (with_parts head tail e vars) full k
  apart_parts at taken empty full head tail k (kind.parts _ _ _ _ _ _ _ e _ x y z) = (e, x, y, z)

  pub apart_call : (at : ℕ) (f : FnId) (values : List TermId) (k : Kind)
      → NodeHasKind lists vars (node.Call at f values) k
      → (d : FnDecl) × (slice_get lists.fns f.0 ≡ Some d) × HaveKinds lists vars values d.pars × (d.gives ≡ k)
  apart_call at f values k (kind.call _ _ _ _ d _ there have given) = (d, there, have, given)

  pub apart_variable : (at : ℕ) (v : VarId) (k : Kind) → NodeHasKind lists vars (node.Var at v) k
      → bound_to v.0 vars ≡ Some k
  apart_variable at v k (kind.variable _ _ _ _ there) = there

  pub apart_have : (a : TermId) (values : List TermId) (par : VarId × Kind) (pars : VariableKinds)
      → HaveKinds lists vars (a ∷ values) (par ∷ pars) → HasKind lists vars a par.1 × HaveKinds lists vars values pars
  apart_have a values par pars (kind.more _ _ _ _ _ has have) = (has, have)

  -- as many arguments as parameters
  pub same_length : (values : List TermId) (pars : VariableKinds) → HaveKinds lists vars values pars
      → length values ≡ length pars
  same_length values pars (kind.none _) = refl
  same_length values pars (kind.more _ a others par rest has have) = ap suc (same_length others rest have)

module _ (lists : ProgramLists) (outer : VariableKinds) where
  -- a term whose kind is known at once
  pub found : (t : TermId) (n : TermNode) (k : Kind) (old : Search) (kinds : List Kind)
      → slice_get lists.terms t.0 ≡ Some n → NodeHasKind lists (old.bound ++ outer) n k → kinds ≡ k ∷ old.kinds
      → IsDone lists outer (task.Term t) old (record { todo = old.todo; kinds = kinds; bound = old.bound })
  found t n k old kinds there has same =
      let whole : HasKind lists (old.bound ++ outer) t k = kind.term _ t k n there has in
      let some = steps-some lists t.0 in
      let P : List Kind → Type 0 = λ l.
      IsDone lists outer (task.Term t) old (record { todo = old.todo; kinds = l; bound = old.bound }) in
      subst
      P
      (sym same)
      (record {
        to = λ result (l, has_too, rest).
            let Q : Kind → Type 0 = λ m. Leads lists outer old.todo (m ∷ old.kinds) old.bound result in
            subst Q (HasKind-unique lists _ t l k has_too whole) rest;
        from = λ result rest. (k, whole, rest);
        less = omega (arith, some);
      })

  -- a term that has no kind
  pub vain : (t : TermId) (n : TermNode) (old : Search) → slice_get lists.terms t.0 ≡ Some n
      → ((k : Kind) → NodeHasKind lists (old.bound ++ outer) n k → ⊥) → IsVain lists outer (task.Term t) old
  vain t n old there none = λ result (k, has, rest). none k (node_of lists _ t n k there has)

  -- a term that leads to tasks
  pub planned : (t : TermId) (n : TermNode) (tasks : List Task) (old : Search) (todo : List Task)
      → slice_get lists.terms t.0 ≡ Some n
      → ((result : Kind) (k : Kind) → NodeHasKind lists (old.bound ++ outer) n k
      → Leads lists outer old.todo (k ∷ old.kinds) old.bound result
      → Leads lists outer (tasks ++ old.todo) old.kinds old.bound result)
      → ((result : Kind) → Leads lists outer (tasks ++ old.todo) old.kinds old.bound result
      → (k : Kind) × NodeHasKind lists (old.bound ++ outer) n k
      × Leads lists outer old.todo (k ∷ old.kinds) old.bound result)
      → work lists tasks < term_steps lists t.0
      → todo ≡ tasks ++ old.todo
      → IsDone lists outer (task.Term t) old (record { todo = todo; kinds = old.kinds; bound = old.bound })
  planned t n tasks old todo there to from less same =
      let sum = work-append lists tasks old.todo in
      let P : List Task → Type 0 = λ l.
      IsDone lists outer (task.Term t) old (record { todo = l; kinds = old.kinds; bound = old.bound }) in
      subst
      P
      (sym same)
      (record {
        to = λ result (k, has, rest). to result k (node_of lists _ t n k there has) rest;
        from = λ result led. let back = from result led in (back.0, kind.term _ t back.0 n there back.1, back.2);
        less = omega (arith, sum, less);
      })

  -- an operator
  pub operated : (t : TermId) (n : TermNode) (a b : TermId) (takes gives : Kind) (old : Search) (todo : List Task)
      → IsProgram lists → slice_get lists.terms t.0 ≡ Some n
      → term_parts n ≡ a.0 ∷ b.0 ∷ []
      → ((k : Kind) → NodeHasKind lists (old.bound ++ outer) n k
      → (k ≡ gives) × HasKind lists (old.bound ++ outer) a takes × HasKind lists (old.bound ++ outer) b takes)
      → (HasKind lists (old.bound ++ outer) a takes → HasKind lists (old.bound ++ outer) b takes
      → NodeHasKind lists (old.bound ++ outer) n gives)
      → todo ≡ task.Term a ∷ task.Expect takes ∷ task.Term b ∷ task.Expect takes ∷ task.Give gives ∷ old.todo
      → IsDone lists outer (task.Term t) old (record { todo = todo; kinds = old.kinds; bound = old.bound })
  operated t n a b takes gives old todo program there parts apart together same =
      let P : List ℕ → Type 0 = λ l. term_steps lists t.0 ≡ 4 + sum_by (λ p. 1 + term_steps lists p) l in
      let whole = subst P parts (steps-there lists t.0 n program.parts there) in
      planned t n (task.Term a ∷ task.Expect takes ∷ task.Term b ∷ task.Expect takes ∷ task.Give gives ∷ []) old todo
      there
      (λ result k has rest.
      let sides = apart k has in
      let Q : Kind → Type 0 = λ m. Leads lists outer old.todo (m ∷ old.kinds) old.bound result in
      (takes, sides.1, (refl, (takes, sides.2, (refl, subst Q sides.0 rest)))))
      (λ result (ka, has_a, (is_a, (kb, has_b, (is_b, rest)))).
      let A : Kind → Type 0 = λ m. HasKind lists (old.bound ++ outer) a m in
      let B : Kind → Type 0 = λ m. HasKind lists (old.bound ++ outer) b m in
      (gives, together (subst A is_a has_a) (subst B is_b has_b), rest))
      (omega (arith, whole))
      same

  -- `::`
  pub put_before : (t : TermId) (at : ℕ) (a b : TermId) (old : Search) (todo : List Task) → IsProgram lists
      → slice_get lists.terms t.0 ≡ Some (node.Cons at a b)
      → todo ≡ task.Term a ∷ task.Term b ∷ task.Cons ∷ old.todo
      → IsDone lists outer (task.Term t) old (record { todo = todo; kinds = old.kinds; bound = old.bound })
  put_before t at a b old todo program there same =
      let whole = steps-there lists t.0 (node.Cons at a b) program.parts there in
      planned t (node.Cons at a b) (task.Term a ∷ task.Term b ∷ task.Cons ∷ []) old todo there
      (λ result k has rest.
      let sides = apart_cons lists (old.bound ++ outer) at a b k has in
      let Q : Kind → Type 0 = λ m. Leads lists outer old.todo (m ∷ old.kinds) old.bound result in
      (sides.0, sides.2, (list_kind sides.0, sides.3, (refl, subst Q sides.1 rest))))
      (λ result (e, has_a, (l, has_b, (is_list, rest))).
      let B : Kind → Type 0 = λ m. HasKind lists (old.bound ++ outer) b m in (
        l,
        (let N : Kind → Type 0 = λ m. NodeHasKind lists (old.bound ++ outer) (node.Cons at a b) m in subst N
            (sym is_list) (kind.cons _ at a b e has_a (subst B is_list has_b))),
        rest,
      ))
      (omega (arith, whole))
      same

  -- `not`
  pub negated : (t : TermId) (at : ℕ) (a : TermId) (old : Search) (todo : List Task) → IsProgram lists
      → slice_get lists.terms t.0 ≡ Some (node.Not at a)
      → todo ≡ task.Term a ∷ task.Expect bool_kind ∷ task.Give bool_kind ∷ old.todo
      → IsDone lists outer (task.Term t) old (record { todo = todo; kinds = old.kinds; bound = old.bound })
  negated t at a old todo program there same =
      let whole = steps-there lists t.0 (node.Not at a) program.parts there in
      planned t (node.Not at a) (task.Term a ∷ task.Expect bool_kind ∷ task.Give bool_kind ∷ []) old todo there
      (λ result k has rest.
      let side = apart_not lists (old.bound ++ outer) at a k has in
      let Q : Kind → Type 0 = λ m. Leads lists outer old.todo (m ∷ old.kinds) old.bound result in
      (bool_kind, side.1, (refl, subst Q side.0 rest)))
      (λ result (k, has, (is_bool, rest)).
      let A : Kind → Type 0 = λ m. HasKind lists (old.bound ++ outer) a m in
      (bool_kind, kind.not _ at a (subst A is_bool has), rest))
      (omega (arith, whole))
      same

  -- `if`
  pub chosen : (t : TermId) (at : ℕ) (test a b : TermId) (old : Search) (todo : List Task) → IsProgram lists
      → slice_get lists.terms t.0 ≡ Some (node.If at test a b)
      → todo ≡ task.Term test ∷ task.Expect bool_kind ∷ task.Term a ∷ task.Term b ∷ task.Same ∷ old.todo
      → IsDone lists outer (task.Term t) old (record { todo = todo; kinds = old.kinds; bound = old.bound })
  chosen t at test a b old todo program there same =
      let whole = steps-there lists t.0 (node.If at test a b) program.parts there in
      planned t (node.If at test a b)
      (task.Term test ∷ task.Expect bool_kind ∷ task.Term a ∷ task.Term b ∷ task.Same ∷ []) old todo there
      (λ result k has rest.
      let sides = apart_choice lists (old.bound ++ outer) at test a b k has in
      (bool_kind, sides.0, (refl, (k, sides.1, (k, sides.2, (refl, rest))))))
      (λ result (kt, has_t, (is_bool, (ka, has_a, (kb, has_b, (are_same, rest))))).
      let T : Kind → Type 0 = λ m. HasKind lists (old.bound ++ outer) test m in
      let A : Kind → Type 0 = λ m. HasKind lists (old.bound ++ outer) a m in
      (kb, kind.choice _ at test a b kb (subst T is_bool has_t) (subst A (sym are_same) has_a) has_b, rest))
      (omega (arith, whole))
      same

  -- `match`
  pub taken_apart : (t : TermId) (at : ℕ) (taken empty full : TermId) (head tail : VarId) (old : Search)
      (todo : List Task) → IsProgram lists → slice_get lists.terms t.0 ≡ Some (node.Match at taken empty head tail full)
      → todo ≡ task.Term taken ∷ task.Part empty head tail full ∷ old.todo
      → IsDone lists outer (task.Term t) old (record { todo = todo; kinds = old.kinds; bound = old.bound })
  taken_apart t at taken empty full head tail old todo program there same =
      let whole = steps-there lists t.0 (node.Match at taken empty head tail full) program.parts there in
      planned t (node.Match at taken empty head tail full) (task.Term taken ∷ task.Part empty head tail full ∷ []) old
      todo there
      (λ result k has rest.
      let sides = apart_parts lists (old.bound ++ outer) at taken empty full head tail k has in
      (list_kind sides.0, sides.1, (sides.0, refl, (k, sides.3, sides.2, rest))))
      (λ result (kt, has_t, (e, is_list, (k, has_full, has_empty, rest))).
      let T : Kind → Type 0 = λ m. HasKind lists (old.bound ++ outer) taken m in
      (k, kind.parts _ at taken empty full head tail e k (subst T is_list has_t) has_empty has_full, rest))
      (omega (arith, whole))
      same

  -- the arguments of a call
  arguments_to : (values : List TermId) (pars : VariableKinds) (todo : List Task) (kinds : List Kind)
      (bound : VariableKinds) (result : Kind) → HaveKinds lists (bound ++ outer) values pars
      → Leads lists outer todo kinds bound result
      → Leads lists outer (argument_tasks values pars ++ todo) kinds bound result
  arguments_to [] pars todo kinds bound result have led = led
  arguments_to (a ∷ values) [] todo kinds bound result have led = led
  arguments_to (a ∷ values) (par ∷ pars) todo kinds bound result have led =
      let first = apart_have lists (bound ++ outer) a values par pars have in
      (par.1, first.0, (refl, arguments_to values pars todo kinds bound result first.1 led))

  arguments_from : (values : List TermId) (pars : VariableKinds) (todo : List Task) (kinds : List Kind)
      (bound : VariableKinds) (result : Kind) → length values ≡ length pars
      → Leads lists outer (argument_tasks values pars ++ todo) kinds bound result
      → HaveKinds lists (bound ++ outer) values pars × Leads lists outer todo kinds bound result
  arguments_from [] [] todo kinds bound result same led = (kind.none _, led)
  arguments_from [] (par ∷ pars) todo kinds bound result same led = absurd (omega arith)
  arguments_from (a ∷ values) [] todo kinds bound result same led = absurd (omega arith)
  arguments_from (a ∷ values) (par ∷ pars) todo kinds bound result same (k, has, (is_wanted, led)) =
      let rest = arguments_from values pars todo kinds bound result (omega arith) led in
      let A : Kind → Type 0 = λ m. HasKind lists (bound ++ outer) a m in
      (kind.more _ a values par pars (subst A is_wanted has) rest.0, rest.1)

  -- a call
  pub called : (t : TermId) (at : ℕ) (f : FnId) (values : List TermId) (d : FnDecl) (old : Search) (todo : List Task)
      → IsProgram lists → slice_get lists.terms t.0 ≡ Some (node.Call at f values)
      → slice_get lists.fns f.0 ≡ Some d → length values ≡ length d.pars
      → todo ≡ argument_tasks values d.pars ++ task.Give d.gives ∷ old.todo
      → IsDone lists outer (task.Term t) old (record { todo = todo; kinds = old.kinds; bound = old.bound })
  called t at f values d old todo program there declared same_count same =
      let whole = steps-there lists t.0 (node.Call at f values) program.parts there in
      let arguments = arguments-work lists values d.pars in
      let sum = work-append lists (argument_tasks values d.pars) (task.Give d.gives ∷ []) in
      planned t (node.Call at f values) (argument_tasks values d.pars ++ task.Give d.gives ∷ []) old todo there
      (λ result k has rest.
      let sides = apart_call lists (old.bound ++ outer) at f values k has in
      let declared_too : sides.0 ≡ d = cc in
      let H : FnDecl → Type 0 = λ g. HaveKinds lists (old.bound ++ outer) values g.pars in
      let gives_too : k ≡ d.gives = cc in
      let Q : Kind → Type 0 = λ m. Leads lists outer old.todo (m ∷ old.kinds) old.bound result in
      rw (append_assoc (argument_tasks values d.pars) (task.Give d.gives ∷ []) old.todo)
      (arguments_to values d.pars (task.Give d.gives ∷ old.todo) old.kinds old.bound result
      (subst H declared_too sides.2) (subst Q gives_too rest)))
      (λ result led.
      let L : List Task → Type 0 = λ l. Leads lists outer l old.kinds old.bound result in
      let led_on = subst L (append_assoc (argument_tasks values d.pars) (task.Give d.gives ∷ []) old.todo) led in
      let back = arguments_from values d.pars (task.Give d.gives ∷ old.todo) old.kinds old.bound result same_count
      led_on in
      (d.gives, kind.call _ at f values d d.gives declared back.0 refl, back.1))
      (omega (arith, whole, arguments, sum))
      (rw (append_assoc (argument_tasks values d.pars) (task.Give d.gives ∷ []) old.todo) same)
