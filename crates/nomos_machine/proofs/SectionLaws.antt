-- Critical sections: who offers a name that is provided once, where the name of an acquired process leads, and to what
-- its talk goes back.
use Rattle.std.proofs.Common.{◌≡◌, ◌≢◌, ◌∙◌, ◌≤◌, inl, inr, ℕ, ◌==◌, Bool, true, false, cond, List, [], ◌∷◌, find, Contains, Some, option_and_then, refl, sym, subst, ap, arith, eqb-true}
use Rattle.std.proofs.lemmas.Bool.{cases_eq, eqb-false}
use Rattle.std.proofs.lemmas.List.Elements.{Contains-append_right, Contains-append_cases}
use Rattle.nomos_ir.specs.Order.{count_of}
use Rattle.nomos_ir.specs.declared.ids.TypeId.{TypeId}
use Rattle.nomos_ir.specs.declared.mode.Mode.{Mode}
use Rattle.nomos_ir.specs.declared.mode.Mode.TheVariants as mode
use Rattle.nomos_types.specs.Acceptance.{Acceptance, IsAccepted}
use Rattle.nomos_types.specs.Modes.{HasMode}
use Rattle.nomos_types.specs.Synchronizing.{IsSynchronizingAt}
use Rattle.nomos_types.proofs.ModeLaws.{mode-unique}
use Rattle.nomos_types.proofs.OccurrenceLaws.{count-here}
use Rattle.nomos_machine.specs.Objects.{process_of, provided, shared_names, shared_of, times}
use Rattle.nomos_machine.specs.Sight.{is_offered, offering}
use Rattle.nomos_machine.specs.State.{State, type_of}
use Rattle.nomos_machine.specs.TypedState.{IsOwned, IsTyped}
use Rattle.nomos_machine.specs.declared.object.Object.{Object}
use Rattle.nomos_machine.specs.declared.object.Object.TheVariants as object
use Rattle.nomos_machine.specs.declared.object.Process.{Process}
use Rattle.nomos_machine.proofs.ApartLaws.{times-two, one-process, leads-own}
use Rattle.nomos_machine.proofs.GoesLaws.{process-typed}
use Rattle.nomos_machine.proofs.PutLaws.{contains-one}

-- ---- the process that is found offering a name

offering-first : (name : ℕ) (r q : Process) (objects : List Object) (t : Bool) → (r.offers == name) ≡ t
    → option_and_then process_of (cond t (Some (object.Process r)) (find (is_offered name) objects)) ≡ Some q
    → (offering objects name ≡ Some q → Contains objects (object.Process q) × (q.offers ≡ name))
    → Contains (object.Process r ∷ objects) (object.Process q) × (q.offers ≡ name)
offering-first name r q objects true here found rest =
    let same : r ≡ q = cc in (
      (0, omega arith, ap object.Process same),
      ap (λ (o : Process). o.offers) (sym same) ∙ eqb-true r.offers name here,
    )
offering-first name r q objects false here found rest =
    let further_on = rest found in
    (Contains-append_right (object.Process r ∷ []) objects (object.Process q) further_on.0, further_on.1)

-- it is one of the objects, and offers the name
pub offering-found : (objects : List Object) (name : ℕ) (q : Process) → offering objects name ≡ Some q
    → Contains objects (object.Process q) × (q.offers ≡ name)
offering-found [] name q found = absurd cc
offering-found (object.Process r ∷ objects) name q found =
    offering-first name r q objects (r.offers == name) refl found (offering-found objects name q)
offering-found (object.Message m ∷ objects) name q found =
    let further_on = offering-found objects name q found in
    (Contains-append_right (object.Message m ∷ []) objects (object.Process q) further_on.0, further_on.1)

offering-next : (name : ℕ) (r p : Process) (objects : List Object) (t : Bool) → (r.offers == name) ≡ t
    → p.offers ≡ name → Contains (object.Process r ∷ objects) (object.Process p)
    → (Contains objects (object.Process p) → (q : Process) × (offering objects name ≡ Some q))
    → (q : Process)
    × (option_and_then process_of (cond t (Some (object.Process r)) (find (is_offered name) objects)) ≡ Some q)
offering-next name r p objects true here offers there rest = (r, refl)
offering-next name r p objects false here offers there rest =
    elim (Contains-append_cases (object.Process r ∷ []) objects (object.Process p) there) [
      | inl first ↦
          let same : r ≡ p = process-same (contains-one (object.Process r) (object.Process p) first) in
          let offers_too : r.offers ≡ name = ap (λ (o : Process). o.offers) same ∙ offers in
          absurd (eqb-false r.offers name here offers_too)
      | inr further_on ↦ rest further_on
    ]
  where
    process-same : object.Process r ≡ object.Process p → r ≡ p
    process-same is = cc

-- where a process offers the name, one is found
pub offering-some : (objects : List Object) (name : ℕ) (p : Process) → Contains objects (object.Process p)
    → p.offers ≡ name → (q : Process) × (offering objects name ≡ Some q)
offering-some [] name p there offers = absurd (omega (arith, there.1))
offering-some (object.Process r ∷ objects) name p there offers =
    offering-next name r p objects (r.offers == name) refl offers there
    (λ further_on. offering-some objects name p further_on offers)
offering-some (object.Message m ∷ objects) name p there offers =
    elim (Contains-append_cases (object.Message m ∷ []) objects (object.Process p) there) [
      | inl first ↦ absurd (differ (contains-one (object.Message m) (object.Process p) first))
      | inr further_on ↦ offering-some objects name p further_on offers
    ]
  where
    differ : object.Message m ≡ object.Process p → ⊥
    differ is = cc

-- ---- a name is offered by one process

module _ {a : Acceptance} (accepted : IsAccepted a) {s : State} (typed : IsTyped a s) {p : Process}
    (there : Contains s.objects (object.Process p)) where
  offers-twice : (q : Process) → Contains s.objects (object.Process q) → q.offers ≡ p.offers → q.pid ≢ p.pid
      → (m : Mode) → p.mode ≡ m → ⊥
  offers-twice q inside same differ m is =
      by-mode m is (typed.owned p.offers own m found (subst (HasMode a.program own) is at_p))
    where
      own : TypeId
      own = (process-typed typed there).matches.offers.own

      found : type_of s.types p.offers ≡ Some own
      found = (process-typed typed there).matches.offers.found

      at_p : HasMode a.program own p.mode
      at_p = (process-typed typed there).offered own found

      provided-twice : times provided s.objects p.offers ≢ 1
      provided-twice once =
          let first = count-here p.offers p.offers [] refl in
          let second = count-here p.offers q.offers [] same in
          let order = typed.numbered.ascending in
          let both =
          times-two s.objects order provided p.offers (object.Process p) (object.Process q) there inside differ
          in
          omega arith

      shared-twice : p.mode ≡ mode.S → times shared_names s.objects p.offers ≢ 1
      shared-twice at_s once =
          let found_q : type_of s.types q.offers ≡ Some own =
          subst (λ (n : ℕ). type_of s.types n ≡ Some own) (sym same) found
          in
          let at_q : HasMode a.program own q.mode = (process-typed typed inside).offered own found_q in
          let at_s_too : q.mode ≡ mode.S = mode-unique accepted.typed.formed.program at_q at_p ∙ at_s in
          let first : count_of p.offers (shared_of p.mode p.offers p.base) ≡ 1 =
          ap (λ (o : Mode). count_of p.offers (shared_of o p.offers p.base)) at_s ∙ count-here p.offers p.offers [] refl
          in
          let second : count_of p.offers (shared_of q.mode q.offers q.base) ≡ 1 =
          ap (λ (o : Mode). count_of p.offers (shared_of o q.offers q.base)) at_s_too
          ∙ count-here p.offers q.offers [] same
          in
          let order = typed.numbered.ascending in
          let both =
          times-two s.objects order shared_names p.offers (object.Process p) (object.Process q) there inside differ
          in
          omega arith

      by-mode : (m : Mode) → p.mode ≡ m → IsOwned m s p.offers → ⊥
      by-mode mode.R is owned = provided-twice owned.0
      by-mode mode.L is owned = provided-twice owned.0
      by-mode mode.T is owned = provided-twice owned.0
      by-mode mode.S is owned = shared-twice is owned.0

  -- two processes that offer one name are one
  pub offers-alone : (q : Process) → Contains s.objects (object.Process q) → q.offers ≡ p.offers → q ≡ p
  offers-alone q inside same =
      elim (cases_eq q.pid p.pid) [
        | inl number ↦ one-process s.objects typed.numbered.ascending p q there inside number
        | inr differ ↦ absurd (offers-twice q inside same differ p.mode refl)
      ]

  -- and that one is found
  pub offering-own : offering s.objects p.offers ≡ Some p
  offering-own =
      let (q, found) = offering-some s.objects p.offers p there refl in
      let (inside, same) = offering-found s.objects p.offers q found in
      found ∙ ap Some (offers-alone q inside same)

-- ---- an acquired process

module _ {a : Acceptance} {s : State} (typed : IsTyped a s) {p : Process}
    (there : Contains s.objects (object.Process p)) (at_l : p.mode ≡ mode.L) (own : TypeId)
    (found : type_of s.types p.offers ≡ Some own) where
  acquired-mode : HasMode a.program own mode.L
  acquired-mode = subst (HasMode a.program own) at_l ((process-typed typed there).offered own found)

  -- each end of its section that its talk can reach goes back to the type of its base
  pub goes-back : (base : ℕ) (shared : TypeId) → p.base ≡ Some base → type_of s.types base ≡ Some shared
      → IsSynchronizingAt a.program a.annotations own shared
  goes-back base shared based typed_base =
      let section = typed.sections p.offers own found acquired-mode in
      let owned = typed.owned p.offers own mode.L found acquired-mode in
      let once : times provided s.objects p.offers ≤ 1 = omega (arith, owned.0) in
      let leads = leads-own s.objects typed.numbered.ascending p section.base there once section.leads in
      let one_base : section.base ≡ base = some-same (sym leads ∙ based) in
      let here : type_of s.types base ≡ Some section.shared =
      subst (λ (n : ℕ). type_of s.types n ≡ Some section.shared) one_base section.found
      in
      let one_type : section.shared ≡ shared = type-same (sym here ∙ typed_base) in
      subst (IsSynchronizingAt a.program a.annotations own) one_type section.synchronizing
    where
      some-same : {m n : ℕ} → Some m ≡ Some n → m ≡ n
      some-same is = cc

      type-same : {t u : TypeId} → Some t ≡ Some u → t ≡ u
      type-same is = cc
