-- Which of a typed process's names are references, and which it has to use.
use Rattle.std.proofs.Common.{◌≡◌, ◌≢◌, ◌∙◌, inl, inr, ℕ, [], length, Contains, Option, Some, None, refl, sym, subst, ap, arith}
use Rattle.std.proofs.lemmas.Bool.{cases_eq}
use Rattle.std.specs.Option.{option_or, option_to_list}
use Rattle.nomos_ir.specs.Bindings.{bound_to}
use Rattle.nomos_ir.specs.Order.{count_of}
use Rattle.nomos_ir.specs.declared.ids.TypeId.{TypeId}
use Rattle.nomos_ir.specs.declared.mode.Mode.{Mode}
use Rattle.nomos_ir.specs.declared.mode.Mode.TheVariants as mode
use Rattle.nomos_ir.proofs.BindingLaws.{all-bound}
use Rattle.nomos_ir.proofs.PairedLaws.{paired-right}
use Rattle.nomos_types.specs.Acceptance.{Acceptance, IsAccepted}
use Rattle.nomos_types.specs.Judgement.{Judgement}
use Rattle.nomos_types.specs.Modes.{HasMode}
use Rattle.nomos_types.proofs.ModeLaws.{mode-unique}
use Rattle.nomos_types.proofs.OccurrenceLaws.{contained}
use Rattle.nomos_machine.specs.Matching.{NameHasType, HasBase}
use Rattle.nomos_machine.specs.Objects.{based, used, times}
use Rattle.nomos_machine.specs.State.{State, NameTypes, type_of}
use Rattle.nomos_machine.specs.TypedState.{ObjectTyped, IsTyped}
use Rattle.nomos_machine.specs.declared.object.Object.{Object}
use Rattle.nomos_machine.specs.declared.object.Object.TheVariants as object
use Rattle.nomos_machine.specs.declared.object.Process.{Process}
use Rattle.nomos_machine.proofs.GoesLaws.{process-typed, process-variables}
use Rattle.nomos_machine.proofs.NameLaws.{contains-times}
use Rattle.nomos_machine.proofs.ObjectLaws.{bound-somewhere}
use Rattle.nomos_machine.proofs.ProcessLaws.{place-is_judgement}
use Rattle.nomos_machine.proofs.PutLaws.{contains-one}
use Rattle.std.proofs.lemmas.List.Elements.{All-contains}

module _ {a : Acceptance} (accepted : IsAccepted a) where
  -- a name that has a type of the first mode, and is alike to a type of the second, has one mode
  pub named-mode : (types : NameTypes) (name : ℕ) (t u : TypeId) (m n : Mode)
      → NameHasType a.program a.annotations types name t
      → HasMode a.program t n → type_of types name ≡ Some u → HasMode a.program u m → m ≡ n
  named-mode types name t u m n has at_n found at_m =
      let formed = accepted.typed.formed.program in
      let same : has.own ≡ u = cc in
      let own_m : HasMode a.program has.own m = subst (λ (w : TypeId). HasMode a.program w m) (sym same) at_m in
      mode-unique formed own_m has.alike.left_mode ∙ mode-unique formed has.alike.right_mode at_n

module _ {a : Acceptance} (accepted : IsAccepted a) {s : State} (typed : IsTyped a s) {p : Process}
    (there : Contains s.objects (object.Process p)) where
  abbrev place : Judgement
  place = (process-typed typed there).place

  second-of : (o q : Option TypeId) (t : TypeId) → option_or o q ≡ Some t → ((u : TypeId) → o ≡ Some u → ⊥) → q ≡ Some t
  second-of (Some u) q t is none = absurd (none u refl)
  second-of None q t is none = is

  -- a name of another mode than S that a variable has is one that the process has to use
  pub linear-name : (v name : ℕ) (u : TypeId) (m : Mode) → bound_to v p.channels ≡ Some name
      → type_of s.types name ≡ Some u → HasMode a.program u m → m ≢ mode.S
      → (t : TypeId) × (bound_to v place.linear ≡ Some t) × NameHasType a.program a.annotations s.types name t
  linear-name v name u m bound found at_m other =
      let t = process-typed typed there in
      let h = place-is_judgement accepted t.is_place in
      let (held, is, has) = paired-right name (t.matches.channels v) bound in
      let none : (w : TypeId) → bound_to v place.shared ≡ Some w → ⊥ = λ w shared.
      let same : held ≡ w = first-same (bound_to v place.shared) (bound_to v place.linear) held w is shared in
      let at_s : HasMode a.program w mode.S =
      all-bound (λ (r : TypeId). HasMode a.program r mode.S) v w place.shared h.shared_modes shared
      in
      other (named-mode accepted s.types name held u m mode.S has
      (subst (λ (r : TypeId). HasMode a.program r mode.S) (sym same) at_s) found at_m)
      in
      (held, second-of (bound_to v place.shared) (bound_to v place.linear) held is none, has)
    where
      first-same : (o q : Option TypeId) (t w : TypeId) → option_or o q ≡ Some t → o ≡ Some w → t ≡ w
      first-same (Some r) q t w is shared = cc
      first-same None q t w is shared = absurd cc

  -- a process that has nothing to use uses no name of another mode than S
  pub uses-none : place.linear ≡ [] → (name : ℕ) (u : TypeId) (m : Mode) → type_of s.types name ≡ Some u
      → HasMode a.program u m → m ≢ mode.S → count_of name (used (object.Process p)) ≡ 0
  uses-none nothing name u m found at_m other =
      elim (cases_eq (count_of name (used (object.Process p))) 0) [
        | inl none ↦ none
        | inr some ↦
            let variables = process-variables typed there in
            let among = contained name (used (object.Process p)) (omega arith) in
            let (v, bound) = bound-somewhere p.channels name variables.channels among in
            let (t, linear, has) = linear-name v name u m bound found at_m other in
            absurd (differ t (sym linear ∙ ap (bound_to v) nothing))
      ]
    where
      differ : (t : TypeId) → Some t ≡ None → ⊥
      differ t is = cc

-- ---- bases

-- only shared names are bases
pub based-shared : {a : Acceptance} {s : State} → IsAccepted a → IsTyped a s → (name : ℕ) (u : TypeId) (m : Mode)
    → type_of s.types name ≡ Some u → HasMode a.program u m → m ≢ mode.S → times based s.objects name ≡ 0
based-shared {a} {s} accepted typed name u m found at_m other =
    elim (cases_eq (times based s.objects name) 0) [
      | inl none ↦ none
      | inr some ↦
          let (o, there, among) = contains-times based name s.objects (omega arith) in
          absurd (no-base o (All-contains (ObjectTyped a s.types (length s.balances)) s.objects o typed.each there)
          among)
    ]
  where
    from-base : (b : Option ℕ) (p : Process) → p.base ≡ b → HasBase a.program s.types p
        → Contains (option_to_list b) name → ⊥
    from-base (Some b) p is has among =
        let (t, typed_b, at_s) = has.shared b is in
        let same : b ≡ name = contains-one b name among in
        let here : type_of s.types name ≡ Some t = subst (λ (k : ℕ). type_of s.types k ≡ Some t) same typed_b in
        let one : t ≡ u = cc in
        let at_m_too : HasMode a.program t m = subst (λ (r : TypeId). HasMode a.program r m) (sym one) at_m in
        other (mode-unique accepted.typed.formed.program at_m_too at_s)
    from-base None p is has among = omega (arith, among.1)

    no-base : (o : Object) → ObjectTyped a s.types (length s.balances) o → Contains (based o) name → ⊥
    no-base (object.Process p) typed_p among = from-base p.base p refl typed_p.has_base among
    no-base (object.Message m) typed_m among = omega (arith, among.1)
