-- Tasks that lead to no kind.
use Rattle.std.proofs.Common.{◌≡◌, List, ◌∷◌, subst, ap, ◌∙◌}
use Rattle.nomos_ir.specs.declared.ids.TermId.{TermId}
use Rattle.nomos_ir.specs.declared.ids.VarId.{VarId}
use Rattle.nomos_ir.specs.declared.kind.Kind.{Kind}
use Rattle.nomos_ir.specs.declared.lists.ProgramLists.{ProgramLists}
use Rattle.nomos_ir.specs.TermKind.{VariableKinds, list_kind}
use Rattle.nomos_terms.specs.declared.search.Search.{Search}
use Rattle.nomos_terms.specs.declared.search.Task.TheVariants as task
use Rattle.nomos_terms.specs.mirror.Left.{Leads, IsVain}

module _ (lists : ProgramLists) (outer : VariableKinds) (old : Search) (k : Kind)
    (no_list : (e : Kind) → k ≡ list_kind e → ⊥) where
  -- nothing stands before what is no list
  pub vain_before : (l : Kind) (mid kinds : List Kind) → old.kinds ≡ k ∷ mid → mid ≡ l ∷ kinds
      → IsVain lists outer task.Cons old
  vain_before l mid kinds first second result led =
      let L : List Kind → Type 0 = λ m. Leads lists outer (task.Cons ∷ old.todo) m old.bound result in
      no_list l (subst L (first ∙ ap (λ m. k ∷ m) second) led).0

  -- what is no list has no parts
  pub vain_parts : (empty full : TermId) (head tail : VarId) (kinds : List Kind) → old.kinds ≡ k ∷ kinds
      → IsVain lists outer (task.Part empty head tail full) old
  vain_parts empty full head tail kinds first result led =
      let L : List Kind → Type 0 = λ m.
      Leads lists outer (task.Part empty head tail full ∷ old.todo) m old.bound result in
      let parts = subst L first led in no_list parts.0 parts.1
