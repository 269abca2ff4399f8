-- What is left leads to the kinds of the whole term, from the first task to the last.
use Rattle.std.proofs.Common.{◌≡◌, List, [], ◌∷◌, Err, refl, sym, ap, ◌∙◌, subst}
use Rattle.nomos_ir.specs.declared.ids.TermId.{TermId}
use Rattle.nomos_ir.specs.declared.kind.Kind.{Kind}
use Rattle.nomos_ir.specs.declared.lists.ProgramLists.{ProgramLists}
use Rattle.nomos_ir.specs.declared.or_no_memory.OrNoMemory.{OrNoMemory}
use Rattle.nomos_ir.specs.declared.or_no_memory.OrNoMemory.TheVariants as stop
use Rattle.nomos_ir.specs.TermKind.{VariableKinds, HasKind}
use Rattle.nomos_terms.specs.declared.search.NoKind.{NoKind}
use Rattle.nomos_terms.specs.declared.search.Search.{Search}
use Rattle.nomos_terms.specs.declared.search.Task.{Task}
use Rattle.nomos_terms.specs.declared.search.Task.TheVariants as task
use Rattle.nomos_terms.specs.mirror.Left.{IsDone, IsVain, IsKind, Stays, no_kind}

-- a search is its parts
same_search : (s : Search) (todo : List Task) (kinds : List Kind) (bound : VariableKinds) → s.todo ≡ todo
    → s.kinds ≡ kinds → s.bound ≡ bound → s ≡ record { todo = todo; kinds = kinds; bound = bound }
same_search s todo kinds bound same_todo same_kinds same_bound =
    ap (λ x. record { todo = x; kinds = s.kinds; bound = s.bound }) same_todo
    ∙ ap (λ x. record { todo = todo; kinds = x; bound = s.bound }) same_kinds
    ∙ ap (λ x. record { todo = todo; kinds = kinds; bound = x }) same_bound

module _ (lists : ProgramLists) (outer : VariableKinds) (t : TermId) where
  -- at first the kind of the term is to be found
  pub stays-first : (s : Search) → s.todo ≡ task.Term t ∷ [] → s.kinds ≡ [] → s.bound ≡ [] → Stays lists outer t s
  stays-first s todo kinds bound =
      let P : Search → Type 0 = λ x. Stays lists outer t x in
      let first : Search = record { todo = task.Term t ∷ []; kinds = []; bound = [] } in
      let same : first ≡ s = sym (same_search s (task.Term t ∷ []) [] [] todo kinds bound) in
      subst
      P
      same
      (record {
        to = λ result has. (result, has, refl);
        from = λ result (k, has, is). let H : Kind → Type 0 = λ m. HasKind lists outer t m in subst H is has;
      })

  -- a task is done
  pub stays-done : (task : Task) (whole old new : Search) → whole.todo ≡ task ∷ old.todo → whole.kinds ≡ old.kinds
      → whole.bound ≡ old.bound → Stays lists outer t whole → IsDone lists outer task old new → Stays lists outer t new
  stays-done task whole old new todo kinds bound stays done =
      let P : Search → Type 0 = λ x. Stays lists outer t x in
      let before : Search = record { todo = task ∷ old.todo; kinds = old.kinds; bound = old.bound } in
      let same : whole ≡ before = same_search whole (task ∷ old.todo) old.kinds old.bound todo kinds bound in
      let stays_too = subst P same stays in
      record {
        to = λ result has. done.to result (stays_too.to result has);
        from = λ result led. stays_too.from result (done.from result led);
      }

  -- a task leads to no kind
  pub stays-vain : (task : Task) (whole old : Search) → whole.todo ≡ task ∷ old.todo → whole.kinds ≡ old.kinds
      → whole.bound ≡ old.bound → Stays lists outer t whole → IsVain lists outer task old → (kind : Kind)
      → HasKind lists outer t kind → ⊥
  stays-vain task whole old todo kinds bound stays vain =
      let P : Search → Type 0 = λ x. Stays lists outer t x in
      let before : Search = record { todo = task ∷ old.todo; kinds = old.kinds; bound = old.bound } in
      let same : whole ≡ before = same_search whole (task ∷ old.todo) old.kinds old.bound todo kinds bound in
      let stays_too = subst P same stays in λ kind has. vain kind (stays_too.to kind has)

  -- at last the kind is on the top
  pub stays-last : (s : Search) (k : Kind) (kinds : List Kind) → s.todo ≡ [] → s.kinds ≡ k ∷ kinds
      → Stays lists outer t s → HasKind lists outer t k
  stays-last s k kinds todo top stays =
      let P : Search → Type 0 = λ x. Stays lists outer t x in
      let last : Search = record { todo = []; kinds = k ∷ kinds; bound = s.bound } in
      let same : s ≡ last = same_search s [] (k ∷ kinds) s.bound todo top refl in (subst P same stays).from k refl

  -- or there is none
  pub stays-none : (s : Search) → s.todo ≡ [] → s.kinds ≡ [] → Stays lists outer t s → (kind : Kind)
      → HasKind lists outer t kind → ⊥
  stays-none s todo top stays =
      let P : Search → Type 0 = λ x. Stays lists outer t x in
      let last : Search = record { todo = []; kinds = []; bound = s.bound } in
      let same : s ≡ last = same_search s [] [] s.bound todo top refl in λ kind has. (subst P same stays).to kind has

  -- a search that stops
  pub stopped : (why : OrNoMemory NoKind) → (why ≡ no_kind → (kind : Kind) → HasKind lists outer t kind → ⊥)
      → IsKind lists outer t (Err why)
  stopped (stop.Answer found) none = none refl
  stopped stop.NoMemory none = tt
