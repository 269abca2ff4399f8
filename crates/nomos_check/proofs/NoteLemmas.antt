-- Which forms are noted at an instruction.
use Rattle.std.proofs.Common.{◌≡◌, ◌⊎◌, ◌↔◌, inl, inr, ⊎_elim, ℕ, List, [], ◌∷◌, ◌++◌, Contains, Some, slice_get, sym, subst, ap, ◌∙◌}
use Rattle.std.proofs.lemmas.List.Elements.{Contains-append_left, Contains-push, Contains-push_cases}
use Rattle.nomos_ir.specs.declared.code_node.Args.{Args}
use Rattle.nomos_ir.specs.declared.code_node.CodeNode.TheVariants as code
use Rattle.nomos_ir.specs.declared.declaration.ProcDecl.{ProcDecl}
use Rattle.nomos_ir.specs.declared.ids.ProcId.{ProcId}
use Rattle.nomos_ir.specs.declared.lists.ProgramLists.{ProgramLists}
use Rattle.nomos_forms.specs.declared.form.Form.{Form}
use Rattle.nomos_types.specs.TypingRule.{StandsAtCode}
use Rattle.nomos_check.specs.Account.{Account, spends, form_of}
use Rattle.nomos_check.specs.Reaching.{IsPointAt}
use Rattle.nomos_check.specs.declared.standing.Standing.{Standing}
use Rattle.nomos_check.specs.mirror.StandingData.{shape_of, HasAccount}
use Rattle.nomos_check.specs.mirror.Walking.{IsFormAt}

pushed : (old : List Form) (f g : Form) → f ≡ g → Contains (old ++ f ∷ []) g
pushed old f g same = subst (λ (h : Form). Contains (old ++ f ∷ []) h) same (Contains-push old f)

module _ (lists : ProgramLists) (s : Standing) (n : ℕ) (a : Account) (has : HasAccount n s a) (old : List Form)
    (form : Form) (is : form ≡ s.potential) where
  abbrev Point : Form → Type 0
  Point f = IsFormAt lists n (shape_of s) a f

  -- no call: the one form is noted
  plain-point : ((at : ℕ) (p : ProcId) (args : Args) → ¬ (StandsAtCode lists (shape_of s) (code.Call at p args)))
      → (f : Form) → Point f → Contains (old ++ form ∷ []) f
  plain-point none f (_, IsPointAt.before, same) = pushed old form f (is ∙ has.potential ∙ sym same)
  plain-point none f (_, IsPointAt.called stands e found, same) = absurd (none _ _ _ stands)

  before-point : (f : Form) → Contains (old ++ form ∷ []) f → Contains old f ⊎ Point f
  before-point f among =
      ⊎_elim (λ early. inl early) (λ same. inr (a, IsPointAt.before, sym same ∙ is ∙ has.potential))
      (Contains-push_cases old form f among)

  pub plain-notes : ((at : ℕ) (p : ProcId) (args : Args) → ¬ (StandsAtCode lists (shape_of s) (code.Call at p args)))
      → (new : List Form) → new ≡ old ++ form ∷ [] → (f : Form) → Contains new f ↔ (Contains old f ⊎ Point f)
  plain-notes none new items f =
      let Among : List Form → Type 0 = λ l. Contains l f in (
        λ among. before-point f (subst Among items among),
        λ either.
            subst Among (sym items)
            (⊎_elim (λ early. Contains-append_left old (form ∷ []) f early) (plain-point none f) either),
      )

  -- a call: the two forms are noted
  module _ (at : ℕ) (p : ProcId) (args : Args) (stands : StandsAtCode lists (shape_of s) (code.Call at p args))
      (e : ProcDecl) (found : slice_get lists.procs p.0 ≡ Some e) (left : Form)
      (left_is : left ≡ form_of n (spends e.amount a)) where
    call-point : (f : Form) → Point f → Contains ((old ++ form ∷ []) ++ left ∷ []) f
    call-point f (_, IsPointAt.before, same) =
        Contains-append_left (old ++ form ∷ []) (left ∷ []) f (pushed old form f (is ∙ has.potential ∙ sym same))
    call-point f (_, IsPointAt.called {f = q} there d declared, same) =
        let callee : p ≡ q = cc in
        let here : slice_get lists.procs p.0 ≡ Some d =
        subst (λ (r : ProcId). slice_get lists.procs r.0 ≡ Some d) (sym callee) declared
        in
        let equal : e ≡ d = cc in
        pushed (old ++ form ∷ []) left f (left_is ∙ ap (λ (c : ProcDecl). form_of n
        (spends c.amount a)) equal ∙ sym same)

    pub call-notes : (new : List Form) → new ≡ (old ++ form ∷ []) ++ left ∷ [] → (f : Form)
        → Contains new f ↔ (Contains old f ⊎ Point f)
    call-notes new items f =
        let Among : List Form → Type 0 = λ l. Contains l f in (
          λ among.
              ⊎_elim (before-point f)
              (λ same. inr (spends e.amount a, IsPointAt.called stands e found, sym same ∙ left_is))
              (Contains-push_cases (old ++ form ∷ []) left f (subst Among items among)),
          λ either.
              subst Among (sym items)
              (⊎_elim
              (λ early. Contains-append_left (old ++ form ∷ []) (left ∷ []) f (Contains-append_left old
              (form ∷ []) f early))
              (call-point f) either),
        )
