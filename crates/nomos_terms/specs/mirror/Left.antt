-- A mirror of the code: what is left to do to find the kind of a term, and which kinds it can lead to.
use Rattle.std.specs.Prelude.{◌≡◌, ◌<◌, ◌+◌, ℕ, zero, suc, List, [], ◌∷◌, ◌++◌, length, sum_by, Option, Some, None, slice_get}
use Rattle.std.specs.declared.result.Result.{Result}
use Rattle.std.specs.declared.result.Result.TheVariants.{Ok, Err}
use Rattle.nomos_ir.specs.declared.declaration.FnDecl.{FnDecl}
use Rattle.nomos_ir.specs.declared.ids.FnId.{FnId}
use Rattle.nomos_ir.specs.declared.ids.TermId.{TermId}
use Rattle.nomos_ir.specs.declared.kind.Kind.{Kind}
use Rattle.nomos_ir.specs.declared.lists.ProgramLists.{ProgramLists}
use Rattle.nomos_ir.specs.declared.or_no_memory.OrNoMemory.{OrNoMemory}
use Rattle.nomos_ir.specs.declared.or_no_memory.OrNoMemory.TheVariants as stop
use Rattle.nomos_ir.specs.declared.term_node.TermNode.{TermNode}
use Rattle.nomos_ir.specs.TermKind.{VariableKinds, HasKind, list_kind, with_parts}
use Rattle.nomos_ir.specs.TermParts.{term_parts}
use Rattle.nomos_terms.specs.declared.search.NoKind.{NoKind}
use Rattle.nomos_terms.specs.declared.search.Search.{Search}
use Rattle.nomos_terms.specs.declared.search.Task.{Task}
use Rattle.nomos_terms.specs.declared.search.Task.TheVariants as task

module _ (lists : ProgramLists) (outer : VariableKinds) where
  -- the tasks, with these kinds found and these variables bound, lead to this kind
  abbrev pub Leads : List Task → List Kind → VariableKinds → Kind → Type 0
  Leads [] [] bound result = ⊥
  Leads [] (k ∷ kinds) bound result = k ≡ result
  Leads (task.Term t ∷ todo) kinds bound result =
      (k : Kind) × HasKind lists (bound ++ outer) t k × Leads todo (k ∷ kinds) bound result
  Leads (task.Expect wanted ∷ todo) [] bound result = ⊥
  Leads (task.Expect wanted ∷ todo) (k ∷ kinds) bound result = (k ≡ wanted) × Leads todo kinds bound result
  Leads (task.Give k ∷ todo) kinds bound result = Leads todo (k ∷ kinds) bound result
  Leads (task.Cons ∷ todo) [] bound result = ⊥
  Leads (task.Cons ∷ todo) (l ∷ []) bound result = ⊥
  Leads (task.Cons ∷ todo) (l ∷ k ∷ kinds) bound result = (l ≡ list_kind k) × Leads todo (l ∷ kinds) bound result
  Leads (task.Same ∷ todo) [] bound result = ⊥
  Leads (task.Same ∷ todo) (l ∷ []) bound result = ⊥
  Leads (task.Same ∷ todo) (l ∷ k ∷ kinds) bound result = (l ≡ k) × Leads todo (l ∷ kinds) bound result
  Leads (task.Part empty head tail full ∷ todo) [] bound result = ⊥
  Leads (task.Part empty head tail full ∷ todo) (k ∷ kinds) bound result =
      (element : Kind) × (k ≡ list_kind element)
      × ((l : Kind) × HasKind lists (with_parts head tail element (bound ++ outer)) full l
      × HasKind lists (bound ++ outer) empty l × Leads todo (l ∷ kinds) bound result)
  Leads (task.Unbind ∷ todo) kinds [] result = ⊥
  Leads (task.Unbind ∷ todo) kinds (x ∷ []) result = ⊥
  Leads (task.Unbind ∷ todo) kinds (x ∷ y ∷ bound) result = Leads todo kinds bound result

  -- what is left leads to this kind
  abbrev pub LeadsTo : Search → Kind → Type 0
  LeadsTo s result = Leads s.todo s.kinds s.bound result

-- the tasks to find the kinds of arguments, which are to be those of the parameters
abbrev pub argument_tasks : List TermId → VariableKinds → List Task
argument_tasks [] pars = []
argument_tasks (t ∷ ts) [] = []
argument_tasks (t ∷ ts) (par ∷ pars) = task.Term t ∷ task.Expect par.1 ∷ argument_tasks ts pars

-- how many tasks a node leads to at most, where each part leads to so many
abbrev pub node_steps : (ℕ → ℕ) → Option TermNode → ℕ
node_steps part_steps None = 4
node_steps part_steps (Some n) = 4 + sum_by (λ p. 1 + part_steps p) (term_parts n)

-- the sum over the tree of a term down to a depth: each node counts as often as it stands in the tree
abbrev pub tree_steps : ProgramLists → ℕ → ℕ → ℕ
tree_steps lists zero t = 4
tree_steps lists (suc depth) t = node_steps (tree_steps lists depth) (slice_get lists.terms t)

-- the sum over the whole tree: parts have lower numbers, so it is no deeper than that
abbrev pub term_steps : ProgramLists → ℕ → ℕ
term_steps lists t = tree_steps lists (suc t) t

-- how many tasks are left to do, at most
abbrev pub task_work : ProgramLists → Task → ℕ
task_work lists (task.Term t) = term_steps lists t.0
task_work lists (task.Part empty head tail full) = term_steps lists empty.0 + term_steps lists full.0 + 3
task_work lists (task.Expect kind) = 1
task_work lists (task.Give kind) = 1
task_work lists task.Cons = 1
task_work lists task.Same = 1
task_work lists task.Unbind = 1

abbrev pub work : ProgramLists → List Task → ℕ
work lists [] = 0
work lists (task ∷ todo) = task_work lists task + work lists todo

-- the task is done: what is left leads to the same kinds, and is less
pub record IsDone (lists : ProgramLists) (outer : VariableKinds) (task : Task) (old new : Search) : Type 0 where
  pub to : (result : Kind) → Leads lists outer (task ∷ old.todo) old.kinds old.bound result
      → LeadsTo lists outer new result
  pub from : (result : Kind) → LeadsTo lists outer new result
      → Leads lists outer (task ∷ old.todo) old.kinds old.bound result
  pub less : work lists new.todo < task_work lists task + work lists old.todo

-- the answer that there is no kind
abbrev pub no_kind : OrNoMemory NoKind
no_kind = stop.Answer (record {})

-- the task leads to no kind
abbrev pub IsVain : ProgramLists → VariableKinds → Task → Search → Type 0
IsVain lists outer task old = (result : Kind) → Leads lists outer (task ∷ old.todo) old.kinds old.bound result → ⊥

-- the function with this number, where it has so many parameters
abbrev pub IsCalled : ProgramLists → FnId → ℕ → Option FnDecl → Type 0
IsCalled lists f count (Some d) = (slice_get lists.fns f.0 ≡ Some d) × (count ≡ length d.pars)
IsCalled lists f count None = (d : FnDecl) → slice_get lists.fns f.0 ≡ Some d → count ≡ length d.pars → ⊥

-- the kind that was found, or that there is none
abbrev pub IsKind : ProgramLists → VariableKinds → TermId → Result Kind (OrNoMemory NoKind) → Type 0
IsKind lists vars t (Ok kind) = HasKind lists vars t kind
IsKind lists vars t (Err (stop.Answer none)) = (kind : Kind) → ¬ HasKind lists vars t kind
IsKind lists vars t (Err stop.NoMemory) = Unit {0}

-- what is left leads to the kinds of the whole term, and to no other
pub record Stays (lists : ProgramLists) (outer : VariableKinds) (t : TermId) (s : Search) : Type 0 where
  pub to : (result : Kind) → HasKind lists outer t result → LeadsTo lists outer s result
  pub from : (result : Kind) → LeadsTo lists outer s result → HasKind lists outer t result
