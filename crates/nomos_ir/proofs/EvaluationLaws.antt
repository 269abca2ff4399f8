-- Laws of evaluation: it is what its steps say, and it ends with values within the bounds of lists.
use Rattle.std.proofs.Common.{◌≡◌, ◌+◌, ◌≤◌, ℕ, zero, suc, Bool, true, false, nat_lt, Some, slice_get, refl, sym, ap, subst, arith, tests, rules}
use Rattle.nomos_ir.specs.declared.ids.TermId.{TermId}
use Rattle.nomos_ir.specs.declared.lists.ProgramLists.{ProgramLists}
use Rattle.nomos_ir.specs.Bindings.{bound_to}
use Rattle.nomos_ir.specs.Evaluation.{Environment, Evaluation, ends, Counted, Evaluator, max_nodes, entered, counted, evaluation, term_evaluation}
use Rattle.nomos_ir.specs.Value.{Value}
use Rattle.nomos_ir.specs.Weight.{weight, max_weight}
use Rattle.nomos_ir.proofs.AgreeLemmas.{rises, entered-same, needs-all}
use Rattle.nomos_ir.proofs.EvaluationLemmas.{holds-evaluation, Holds}

-- past the last entry there is a fault
past_last : (lists : ProgramLists) (inside calls : ℕ) (env : Environment) (t : TermId) (n : ℕ) → max_nodes ≤ n
    → evaluation lists zero calls env t n ≡ evaluation lists inside calls env t n
unfolding evaluation
past_last lists zero calls env t n past = refl
past_last lists (suc inside) calls env t n past =
    let off : nat_lt n max_nodes ≡ false = search (tests, rules) in
    sym (ap (λ b. counted b (entered lists (evaluation lists inside) calls env (slice_get lists.terms t.0)) n) off)

-- one entry
pub counted-same : (b : Bool) (f g : Counted) (n : ℕ) → f (n + 1) ≡ g (n + 1) → counted b f n ≡ counted b g n
counted-same true f g n same = same
counted-same false f g n same = refl

-- as many nodes inside one another as may be entered are enough, and more change nothing
steady : (lists : ProgramLists) (i j calls : ℕ) (env : Environment) (t : TermId) (n : ℕ) → max_nodes ≤ i + n
    → max_nodes ≤ j + n → evaluation lists i calls env t n ≡ evaluation lists j calls env t n
unfolding evaluation
steady lists zero j calls env t n enough_i enough_j = past_last lists j calls env t n (omega arith)
steady lists (suc i) zero calls env t n enough_i enough_j = sym (past_last lists (suc i) calls env t n (omega arith))
steady lists (suc i) (suc j) calls env t n enough_i enough_j =
    let inner : (c : ℕ) (e : Environment) (s : TermId) (m : ℕ) → n + 1 ≤ m
    → evaluation lists i c e s m ≡ evaluation lists j c e s m = λ c e s m after.
    steady lists i j c e s m (omega arith) (omega arith) in
    counted-same
    (nat_lt n max_nodes)
    _
    _
    n
    (entered-same lists (evaluation lists i) (evaluation lists j) (λ c e s m. rises lists i c e s m) calls env env
    (n + 1) (slice_get lists.terms t.0)
    (λ y there. needs-all lists (evaluation lists i) (evaluation lists j) (λ c e s m. rises lists i c e s m) calls
    env (n + 1) y inner) inner)

-- it enters the term, and goes on with its parts in the same way
step_inside : (lists : ProgramLists) (i calls : ℕ) (env : Environment) (t : TermId) (n : ℕ) → max_nodes ≤ i
    → evaluation lists (suc i) calls env t n
    ≡ counted (nat_lt n max_nodes) (entered lists (evaluation lists (suc i)) calls env (slice_get lists.terms t.0)) n
unfolding evaluation
step_inside lists i calls env t n enough =
    let inner : (c : ℕ) (e : Environment) (s : TermId) (m : ℕ) → n + 1 ≤ m
    → evaluation lists i c e s m ≡ evaluation lists (suc i) c e s m = λ c e s m after.
    steady lists i (suc i) c e s m (omega arith) (omega arith) in
    counted-same
    (nat_lt n max_nodes)
    (entered lists (evaluation lists i) calls env (slice_get lists.terms t.0))
    (entered lists (evaluation lists (suc i)) calls env (slice_get lists.terms t.0))
    n
    (entered-same lists (evaluation lists i) (evaluation lists (suc i)) (λ c e s m. rises lists i c e s m) calls env env
    (n + 1) (slice_get lists.terms t.0)
    (λ y there. needs-all lists (evaluation lists i) (evaluation lists (suc i)) (λ c e s m. rises lists i c e s m)
    calls env (n + 1) y inner) inner)

-- the evaluation of a term with so many calls open, among these variables, after so many nodes
unfoldable pub evaluation_from : ProgramLists → Evaluator
evaluation_from lists = evaluation lists (suc max_nodes)

-- it enters the term, and goes on with its parts in the same way
pub evaluation-step : (lists : ProgramLists) (calls : ℕ) (env : Environment) (t : TermId) (n : ℕ)
    → evaluation_from lists calls env t n
    ≡ counted (nat_lt n max_nodes) (entered lists (evaluation_from lists) calls env (slice_get lists.terms t.0)) n
unfolding evaluation_from
evaluation-step lists calls env t n = step_inside lists max_nodes calls env t n (omega arith)

-- the evaluation of a term by itself
pub evaluation-whole : (lists : ProgramLists) (env : Environment) (t : TermId)
    → term_evaluation lists env t ≡ evaluation_from lists 0 env t 0
unfolding term_evaluation evaluation_from
evaluation-whole lists env t = refl

-- the weight of values is within the bound
abbrev pub IsLight : Value → Type 0
IsLight v = weight v ≤ max_weight

-- where the weights of all variables are within the bound, so is that of the value
pub evaluation-light : (lists : ProgramLists) (env : Environment) (t : TermId) (v : Value) (n : ℕ)
    → ((w : ℕ) (x : Value) → bound_to w env ≡ Some x → IsLight x) → term_evaluation lists env t ≡ ends v n → IsLight v
unfolding term_evaluation
evaluation-light lists env t v n light ended =
    let holds = holds-evaluation IsLight (λ z. omega arith) (λ b. omega arith) (omega arith)
    (λ x xs whole. (omega arith, omega arith)) (λ x xs _ _ small. search (tests, rules)) lists (max_nodes + 1) 0 env
    t 0 light in
    let P : Evaluation → Type 0 = λ e. Holds IsLight 0 e in (subst P ended holds).1
