-- Along firings the type of the outside name carries nothing.
use Rattle.std.proofs.Common.{◌≡◌, ◌∙◌, inl, inr, ℕ, List, [], ◌∷◌, map, Contains, Option, Some, None, refl, sym, subst, ap, slice_get, Bool, cond, eq-eqb}
use Rattle.std.specs.Option.{option_map, option_or}
use Rattle.std.proofs.lemmas.Bool.{cases_eq}
use Rattle.nomos_ir.specs.Bindings.{bound_to}
use Rattle.nomos_ir.specs.declared.code_node.CodeNode.{CodeNode}
use Rattle.nomos_ir.specs.declared.code_node.CodeNode.TheVariants as code
use Rattle.nomos_ir.specs.declared.ids.TypeId.{TypeId}
use Rattle.nomos_ir.specs.declared.ids.VarId.{VarId}
use Rattle.nomos_ir.proofs.PairedLaws.{paired-right}
use Rattle.nomos_types.specs.Acceptance.{Acceptance, IsAccepted}
use Rattle.nomos_types.specs.Equality.{EqualTypes}
use Rattle.nomos_types.specs.Judgement.{Judgement, type_held}
use Rattle.nomos_types.specs.Premises.{Forwards}
use Rattle.nomos_types.specs.TypingRule.{TypingRule}
use Rattle.nomos_types.proofs.EqualityLaws.{equal-back, equal-through}
use Rattle.nomos_types.proofs.RowLaws.{row-inverted}
use Rattle.nomos_machine.specs.Change.{Change, changed}
use Rattle.nomos_machine.specs.Opening.{outside_name}
use Rattle.nomos_machine.specs.Revised.{renamed}
use Rattle.nomos_machine.specs.State.{State, type_of}
use Rattle.nomos_machine.specs.Step.{step}
use Rattle.nomos_machine.specs.TypedState.{IsTyped}
use Rattle.nomos_machine.specs.declared.object.Object.TheVariants as object
use Rattle.nomos_machine.specs.declared.object.Process.{Process}
use Rattle.nomos_machine.proofs.GoesLaws.{process-typed, own-row, own-stands}
use Rattle.nomos_machine.proofs.LifeLaws.{changed-keeps_types, one-type}
use Rattle.nomos_machine.proofs.MeetingLaws.{linear-alone}
use Rattle.nomos_machine.proofs.OutsideTalkLaws.{outside-typed}
use Rattle.nomos_machine.proofs.PlainLaws.{IsForward, IsMadeAt, plain, forward, step-made}
use Rattle.nomos_machine.proofs.PreservationLaws.{process_at-there}
use Rattle.nomos_machine.proofs.ProcessLaws.{own_judgement, place-is_judgement}
use Rattle.nomos_machine.proofs.RenameLaws.{renamed-old, renamed-other}
use Rattle.nomos_equality.specs.Carriers.{CarriesNothing}
use Rattle.nomos_equality.proofs.CarryLaws.{carries-nothing-equal}
use Rattle.nomos_monitor.specs.Talks.{SpeaksAlone}

module _ {a : Acceptance} (accepted : IsAccepted a) {s : State} (typed : IsTyped a s) (alone : SpeaksAlone a s) where
  -- where a change leaves the outside names as they are, their types are as before
  same-alone : (c : Change) → c.outside ≡ s.outside → SpeaksAlone a (changed s c)
  same-alone c same name own outside found =
      let here : outside_name s ≡ Some name = ap (λ (names : List ℕ). slice_get names 0) (sym same) ∙ outside in
      let (t, before, at_r) = outside-typed typed name here in
      let is = one-type typed (changed-keeps_types s c) name t own before found in
      subst (CarriesNothing a.program) is (alone name t here before)

  -- of a forward the two names have equal types
  forward-equal : (p : Process) (there : Contains s.objects (object.Process p)) (v : VarId)
      → Forwards a.program a.annotations (own_judgement p (process-typed typed there)) v
      → (n : ℕ) → bound_to v.0 p.channels ≡ Some n → (t : TypeId) → type_of s.types p.offers ≡ Some t
      → (u : TypeId) × (type_of s.types n ≡ Some u) × EqualTypes a.program a.annotations t u
  forward-equal p there v goes n bound t found =
      let its = process-typed typed there in
      let (held, is, has) = paired-right n (its.matches.channels v.0) bound in
      let linear : bound_to v.0 its.place.linear ≡ Some goes.own =
      ap (bound_to v.0) goes.only
      ∙ ap (λ (b : Bool). cond b (Some goes.own) None) (eq-eqb v.0 v.0 refl) in
      let none = linear-alone
      (place-is_judgement accepted its.is_place) v goes.own linear in
      let is_own : type_held its.place v.0 ≡ Some goes.own =
      ap (λ (o : Option TypeId). option_or o (bound_to v.0 its.place.linear)) none ∙ linear in
      let same : held ≡ goes.own = the-type (sym is ∙ is_own) in
      let offers = its.matches.offers in
      let own_type : offers.own ≡ t = the-type (sym offers.found ∙ found) in
      let first : EqualTypes a.program a.annotations t its.place.offers =
      subst (λ (w : TypeId). EqualTypes a.program a.annotations w its.place.offers) own_type offers.alike.equal in
      let second : EqualTypes a.program a.annotations its.place.offers goes.own = goes.alike.equal in
      let third : EqualTypes a.program a.annotations goes.own has.own =
      equal-back a.program a.annotations has.own goes.own
      (subst (λ (w : TypeId). EqualTypes a.program a.annotations has.own w) same has.alike.equal) in (
        has.own,
        has.found,
        equal-through a.program a.annotations t goes.own has.own
            (equal-through a.program a.annotations t its.place.offers goes.own first second) third,
      )
    where
      the-type : {x y : TypeId} → Some x ≡ Some y → x ≡ y
      the-type e = cc

  forward-alone : (p : Process) (there : Contains s.objects (object.Process p)) (v : VarId)
      → Forwards a.program a.annotations (own_judgement p (process-typed typed there)) v
      → (c : Change) → IsForward a s p v c → SpeaksAlone a (changed s c)
  forward-alone p there v goes c f name own outside found =
      let moved : c.outside ≡ map (renamed p.offers f.name) s.outside =
      ap (λ (d : Change). d.outside) f.is in
      let first : option_map (renamed p.offers f.name) (outside_name s) ≡ Some name =
      sym (first-mapped (renamed p.offers f.name) s.outside)
      ∙ ap (λ (names : List ℕ). slice_get names 0) (sym moved) ∙ outside in
      by_first (outside_name s) refl first
    where
      first-mapped : (g : ℕ → ℕ) (names : List ℕ) → slice_get (map g names) 0 ≡ option_map g (slice_get names 0)
      first-mapped g [] = refl
      first-mapped g (n ∷ names) = refl

      one : {x y : ℕ} → Some x ≡ Some y → x ≡ y
      one e = cc

      by_first : (o : Option ℕ) → outside_name s ≡ o → option_map (renamed p.offers f.name) o ≡ Some name
          → CarriesNothing a.program own
      by_first None is none = absurd cc
      by_first (Some old) is some =
          let (t, before, at_r) = outside-typed typed old is in
          let silent = alone old t is before in
          let keeps = changed-keeps_types s c in
          elim (cases_eq old p.offers) [
            | inl same ↦
                let its : type_of s.types p.offers ≡ Some t = subst (λ (n : ℕ). type_of s.types n ≡ Some t) same
                before in
                let (u, found_u, equal) = forward-equal p there v goes f.name f.bound t its in
                let is_new : f.name ≡ name =
                sym (ap (renamed p.offers f.name) same ∙ renamed-old p.offers f.name) ∙ one some in
                let there_u : type_of s.types name ≡ Some u = subst (λ (n : ℕ). type_of s.types n ≡ Some u) is_new
                found_u in
                let is_u = one-type typed keeps name u own there_u found in
                subst (CarriesNothing a.program) is_u
                (carries-nothing-equal accepted.typed.formed.program a.annotations equal silent)
            | inr other ↦
                let is_old : old ≡ name = sym (renamed-other p.offers f.name old other) ∙ one some in
                let there_t : type_of s.types name ≡ Some t = subst (λ (n : ℕ). type_of s.types n ≡ Some t) is_old
                before in
                let is_t = one-type typed keeps name t own there_t found in
                subst (CarriesNothing a.program) is_t silent
          ]

  by-change : (p : Process) (there : Contains s.objects (object.Process p)) (n : CodeNode)
      → slice_get a.program.code p.code.0 ≡ Some n → (after : List Judgement)
      → TypingRule a.program a.annotations (own_judgement p (process-typed typed there)) after
      → (c : Change) → IsMadeAt a s p n c → SpeaksAlone a (changed s c)
  by-change p there n stands after row c (plain so) = same-alone c so.outside
  by-change p there n stands after row c (forward at v is_fwd f) =
      let stands_fwd : slice_get a.program.code p.code.0 ≡ Some (code.Fwd at v) =
      stands ∙ ap (λ (k : CodeNode). Some k) is_fwd in
      let (goes, nothing) = row-inverted (code.Fwd at v) (own-stands typed there (code.Fwd at v) stands_fwd) row in
      forward-alone p there v goes c f

  -- each step leaves an outside name that carries nothing
  pub step-alone : (pid : ℕ) (t : State) → step a s pid ≡ Some t → SpeaksAlone a t
  step-alone pid t is =
      let made = step-made a s pid t is in
      let there = (process_at-there s pid made.p made.found).0 in
      let (after, row) = own-row typed there accepted in
      subst (SpeaksAlone a) made.after (by-change made.p there made.node made.stands after row made.c made.is_made)
