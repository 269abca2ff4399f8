-- What a node leads to takes fewer tasks than the node itself: the sum over its tree counts each part once.
use Rattle.std.proofs.Common.{◌≡◌, ◌+◌, ◌<◌, ◌≤◌, ℕ, zero, suc, List, [], ◌∷◌, ◌++◌, Option, Some, None, map, slice_get, All, refl, ap, ◌∙◌, arith}
use Rattle.std.specs.List.{sum_by}
use Rattle.std.proofs.lemmas.List.Elements.{All-head, All-tail}
use Rattle.std.proofs.lemmas.List.Sums.{sum_by-cons}
use Rattle.nomos_ir.specs.declared.ids.TermId.{TermId}
use Rattle.nomos_ir.specs.declared.term_node.TermNode.{TermNode}
use Rattle.nomos_ir.specs.declared.lists.ProgramLists.{ProgramLists}
use Rattle.nomos_ir.specs.Order.{PartsAreLower}
use Rattle.nomos_ir.specs.TermKind.{VariableKinds}
use Rattle.nomos_ir.specs.TermParts.{term_parts}
use Rattle.nomos_terms.specs.declared.search.Task.{Task}
use Rattle.nomos_terms.specs.mirror.Left.{node_steps, tree_steps, term_steps, work, argument_tasks}

-- each node counts
node-some : (f : ℕ → ℕ) (found : Option TermNode) → 4 ≤ node_steps f found
node-some f None = omega arith
node-some f (Some n) = omega arith

pub steps-some : (lists : ProgramLists) (t : ℕ) → 4 ≤ term_steps lists t
steps-some lists t = node-some (tree_steps lists t) (slice_get lists.terms t)

-- sums that agree below a number agree on parts below it
sums-same : (f g : ℕ → ℕ) (t : ℕ) (parts : List ℕ) → ((p : ℕ) → p < t → f p ≡ g p) → All (λ k. k < t) parts
    → sum_by (λ p. 1 + f p) parts ≡ sum_by (λ p. 1 + g p) parts
sums-same f g t [] agree lower = refl
sums-same f g t (p ∷ parts) agree lower =
    let first : f p ≡ g p = agree p (All-head (λ k. k < t) p parts lower) in
    let rest = sums-same f g t parts agree (All-tail (λ k. k < t) p parts lower) in
    let one = sum_by-cons (λ q. 1 + f q) p parts in
    let other = sum_by-cons (λ q. 1 + g q) p parts in
    omega (arith, first, rest, one, other)

node-same : (lists : ProgramLists) (f g : ℕ → ℕ) (t : ℕ) (found : Option TermNode) → PartsAreLower lists
    → slice_get lists.terms t ≡ found → ((p : ℕ) → p < t → f p ≡ g p) → node_steps f found ≡ node_steps g found
node-same lists f g t None order there agree = refl
node-same lists f g t (Some n) order there agree =
    ap (λ k. 4 + k) (sums-same f g t (term_parts n) agree (order.terms t n there))

-- more depth than a term has changes nothing
tree-same : (lists : ProgramLists) → PartsAreLower lists → (a b t : ℕ) → t < a → t < b
    → tree_steps lists a t ≡ tree_steps lists b t
tree-same lists order zero b t inside other = absurd (omega arith)
tree-same lists order (suc a) zero t inside other = absurd (omega arith)
tree-same lists order (suc a) (suc b) t inside other =
    node-same lists (tree_steps lists a) (tree_steps lists b) t (slice_get lists.terms t) order refl
    (λ p lower. tree-same lists order a b p (omega (arith, lower, inside)) (omega (arith, lower, other)))

-- the sum over the tree of a term is made of those over the trees of its parts
pub steps-there : (lists : ProgramLists) (t : ℕ) (n : TermNode) → PartsAreLower lists → slice_get lists.terms t ≡ Some n
    → term_steps lists t ≡ 4 + sum_by (λ p. 1 + term_steps lists p) (term_parts n)
steps-there lists t n order there =
    ap (node_steps (tree_steps lists t)) there
    ∙ node-same lists (tree_steps lists t) (term_steps lists) t (Some n) order there
    (λ p lower. tree-same lists order t (suc p) p lower (omega arith))

-- what is left of tasks before others
pub work-append : (lists : ProgramLists) (tasks todo : List Task)
    → work lists (tasks ++ todo) ≡ work lists tasks + work lists todo
work-append lists [] todo = omega arith
work-append lists (task ∷ tasks) todo = omega (arith, work-append lists tasks todo)

-- what a call plans for its arguments is no more than these count
pub arguments-work : (lists : ProgramLists) (values : List TermId) (pars : VariableKinds)
    → work lists (argument_tasks values pars)
    ≤ sum_by (λ p. 1 + term_steps lists p) (map (λ (e : TermId). e.0) values)
arguments-work lists [] pars = omega arith
arguments-work lists (e ∷ es) [] = omega arith
arguments-work lists (e ∷ es) (par ∷ pars) =
    let others = arguments-work lists es pars in
    let sum = sum_by-cons (λ p. 1 + term_steps lists p) e.0 (map (λ (d : TermId). d.0) es) in
    omega (arith, others, sum)
