-- What is found of one process more.
use Rattle.std.proofs.Common.{◌≡◌, ◌⊎◌, inl, inr, ℕ, ◌+◌, Bool, true, false, cond, nat_le, List, [], ◌++◌, Contains, Option, Some, None, slice_get, refl, sym, subst, arith}
use Rattle.std.proofs.lemmas.List.Elements.{Contains-append_left, Contains-append_right, Contains-append_cases}
use Rattle.nomos_ir.specs.declared.amount.Amount.{Amount}
use Rattle.nomos_ir.specs.declared.code_form.CodeForm.{CodeForm}
use Rattle.nomos_ir.specs.declared.declaration.ProcDecl.{ProcDecl}
use Rattle.nomos_ir.specs.declared.lists.ProgramLists.{ProgramLists}
use Rattle.nomos_ir.specs.Amounts.{star_count}
use Rattle.nomos_equality.specs.Comparing.{Compared}
use Rattle.nomos_forms.specs.declared.form.Form.{Form}
use Rattle.nomos_types.specs.Typed.{IsWellFormed}
use Rattle.nomos_check.proofs.StuckLaws.{stuck-no_skeleton}
use Rattle.nomos_check.specs.Checking.{NeedsBeside}
use Rattle.nomos_check.specs.Asking.{IsAsked}
use Rattle.nomos_check.specs.Checking.{IsFirstStuck, IsStuckAt}
use Rattle.nomos_check.specs.Reaching.{outset_of, IsFormOf}
use Rattle.nomos_rows.proofs.TellingLemmas.{below-next, below-more}
use Rattle.nomos_rows.specs.declared.processes.Gathered.{Gathered}
use Rattle.nomos_rows.specs.declared.first_fault.DeclarationFault.{DeclarationFault}
use Rattle.nomos_rows.specs.declared.first_fault.DeclarationFault.TheVariants as fault
use Rattle.nomos_rows.specs.mirror.Declarations.{ProcessFault, ProcessFine}
use Rattle.nomos_rows.specs.mirror.Processes.{HasForm, AsksFor, Gathers, Adds}
use Rattle.nomos_rows.specs.mirror.FirstFault.{earliest, TellsOne}
use Rattle.nomos_rows.specs.mirror.Ups.{IfNone}

module _ (lists : ProgramLists) where
  -- a process that has a skeleton is not stuck
  pub skeleton-no_fault : IsWellFormed lists → (k at : ℕ) (f : DeclarationFault) → ProcessFine lists k
      → ProcessFault lists k at f → ⊥
  skeleton-no_fault formed k at f fine stuck =
      stuck-no_skeleton k formed stuck.declared stuck.stuck.stuck (fine stuck.declaration stuck.declared)

  -- what is told of a process that is stuck
  pub stuck-told : (k at : ℕ) (form : CodeForm) (d : ProcDecl) → slice_get lists.procs k ≡ Some d
      → IsFirstStuck lists d at form → TellsOne (ProcessFault lists k) (ProcessFine lists k) (Some
      (at, fault.Stuck form))
  stuck-told k at form d declared first = (
    record { declaration = d; declared = declared; form = form; stuck = first.stuck; is = refl },
    λ other f given.
        let there = given.declared in
        let same : given.declaration ≡ d = cc in
        first.first other
        (given.form, subst (λ (e : ProcDecl). IsStuckAt lists e other given.form) same given.stuck),
  )

  module _ (k : ℕ) (d : ProcDecl) (declared : slice_get lists.procs k ≡ Some d) where
    -- what holds of the process at the place holds of this one
    its-form : (f : Form) → HasForm lists f k → IsFormOf lists (star_count lists) (outset_of lists d) f
    its-form f (e, there, is) =
        let same : e ≡ d = cc in
        subst (λ (o : ProcDecl). IsFormOf lists (star_count lists) (outset_of lists o) f) same is

    its-pair : (p : Amount × Amount) → AsksFor lists p k → IsAsked lists (outset_of lists d) p
    its-pair p (e, there, is) =
        let same : e ≡ d = cc in
        subst (λ (o : ProcDecl). IsAsked lists (outset_of lists o) p) same is

    module _ {old new : Compared} {forms : List Form} {pairs : List (Amount
        × Amount)} (needs : NeedsBeside lists (star_count lists) d old new forms pairs) where
      points-join : (before after : List Form) → after ≡ before ++ forms → (f : Form) → (Contains after f
          → Contains before f ⊎ HasForm lists f k) × (Contains before f ⊎ HasForm lists f k → Contains after f)
      points-join before after joined f = (
        λ among.
            elim (Contains-append_cases before forms f (subst (λ (fs : List Form). Contains fs f) joined among)) [
              | inl first ↦ inl first
              | inr its ↦ inr (d, declared, (needs.points f).0 its)
            ],
        λ given.
            subst (λ (fs : List Form). Contains fs f) (sym joined)
            (elim given [
              | inl first ↦ Contains-append_left before forms f first
              | inr has ↦ Contains-append_right before forms f ((needs.points f).1 (its-form f has))
            ]),
      )

      -- a pair that is new beside what was compared
      asked-new : (before : List (Amount × Amount)) (p : Amount × Amount) → Contains pairs p
          ⊎ Contains new.amounts p → (Contains before p ⊎ Contains old.amounts p) ⊎ AsksFor lists p k
      asked-new before p given =
          elim ((needs.asked p).0 given) [
            | inl known ↦ inl (inr known)
            | inr asks ↦ inr (d, declared, asks)
          ]

      asked-back : (before : List (Amount × Amount)) (p : Amount × Amount) → Contains old.amounts p
          ⊎ IsAsked lists (outset_of lists d) p → Contains (before ++ pairs) p ⊎ Contains new.amounts p
      asked-back before p given =
          elim ((needs.asked p).1 given) [
            | inl its ↦ inl (Contains-append_right before pairs p its)
            | inr known ↦ inr known
          ]

      pairs-join : (before after : List (Amount × Amount)) → after ≡ before ++ pairs → (p : Amount × Amount)
          → (Contains after p ⊎ Contains new.amounts p → (Contains before p ⊎ Contains old.amounts p)
          ⊎ AsksFor lists p k) × ((Contains before p ⊎ Contains old.amounts p) ⊎ AsksFor lists p k
          → Contains after p ⊎ Contains new.amounts p)
      pairs-join before after joined p = (
        λ given.
            elim given [
              | inl among ↦
                  elim (Contains-append_cases before pairs p (subst (λ (ps : List (Amount
                  × Amount)). Contains ps p) joined among)) [
                    | inl first ↦ inl (inl first)
                    | inr its ↦ asked-new before p (inl its)
                  ]
              | inr known ↦ asked-new before p (inr known)
            ],
        λ given.
            subst (λ (ps : List (Amount × Amount)). Contains ps p ⊎ Contains new.amounts p) (sym joined)
            (elim given [
              | inl earlier ↦
                  elim earlier [
                    | inl first ↦ inl (Contains-append_left before pairs p first)
                    | inr known ↦ asked-back before p (inl known)
                  ]
              | inr asks ↦ asked-back before p (inr (its-pair p asks))
            ]),
      )

      -- what is found of the process joins
      pub adds-joined : (before after : Gathered) → after.forms.items ≡ before.forms.items ++ forms
          → after.pairs.items ≡ before.pairs.items ++ pairs → Adds lists k old new before after
      adds-joined before after more_forms more_pairs =
          record {
            points = points-join before.forms.items after.forms.items more_forms;
            asked = pairs-join before.pairs.items after.pairs.items more_pairs;
          }

  -- the forms and pairs of one process more are gathered
  gathers-next : (k : ℕ) (old mid new : Compared) (before after : Gathered)
      → Gathers lists k old mid before.forms.items before.pairs.items → Adds lists k mid new before after
      → Gathers lists (k + 1) old new after.forms.items after.pairs.items
  gathers-next k old mid new before after gathers adds =
      record {
        points =
            λ f.
            let P : ℕ → Type 0 = HasForm lists f in (
              λ among.
                  elim ((adds.points f).0 among) [
                    | inl first ↦ below-more P k ((gathers.points f).0 first)
                    | inr has ↦ (k, omega arith, has)
                  ],
              λ some.
                  (adds.points f).1
                  (elim (below-next P k some) [
                    | inl below ↦ inl ((gathers.points f).1 below)
                    | inr has ↦ inr has
                  ]),
            );
        asked =
            λ p.
            let P : ℕ → Type 0 = AsksFor lists p in (
              λ given.
                  elim ((adds.asked p).0 given) [
                    | inl earlier ↦
                        elim ((gathers.asked p).0 earlier) [
                          | inl first ↦ inl first
                          | inr below ↦ inr (below-more P k below)
                        ]
                    | inr asks ↦ inr (k, omega arith, asks)
                  ],
              λ given.
                  (adds.asked p).1
                  (elim given [
                    | inl first ↦ inl ((gathers.asked p).1 (inl first))
                    | inr some ↦
                        elim (below-next P k some) [
                          | inl below ↦ inl ((gathers.asked p).1 (inr below))
                          | inr asks ↦ inr asks
                        ]
                  ]),
            );
      }

  pub gathers-more : (k : ℕ) (old mid new : Compared) (before after : Gathered)
      (first found : Option (ℕ × DeclarationFault))
      → IfNone (Gathers lists k old mid before.forms.items before.pairs.items) first
      → IfNone (Adds lists k mid new before after) found → IfNone (Gathers lists
      (k + 1) old new after.forms.items after.pairs.items) (earliest first found)
  gathers-more k old mid new before after None None gathers adds = gathers-next k old mid new before after gathers adds
  gathers-more k old mid new before after None (Some b) gathers adds = tt
  gathers-more k old mid new before after (Some a) None gathers adds = tt
  gathers-more k old mid new before after (Some a) (Some b) gathers adds = if-some (nat_le a.0 b.0) a b
    where
      if-some : (t : Bool) (a b : ℕ × DeclarationFault) → IfNone (Gathers lists
          (k + 1) old new after.forms.items after.pairs.items) (cond t (Some a) (Some b))
      if-some true a b = tt
      if-some false a b = tt

  -- of no processes there is nothing
  pub gathers-none : (old : Compared) → Gathers lists 0 old old [] []
  gathers-none old =
      record {
        points = λ f. (
          λ among. absurd (let below = among.1 in omega arith),
          λ some. absurd
              (let below = some.1 in omega arith),
        );
        asked =
            λ p. (
              λ given. elim given [ inl among ↦ absurd (let below = among.1 in omega arith) | inr known ↦ inl known ],
              λ given. elim given [ inl known ↦ inr known | inr some ↦ absurd (let below = some.1 in omega arith) ],
            );
      }
