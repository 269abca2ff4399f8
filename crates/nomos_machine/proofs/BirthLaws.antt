-- A process that comes, and offers the next name, leaves a typed state typed.
use Rattle.std.proofs.Common.{◌≡◌, ◌≢◌, ◌∙◌, ◌≤◌, ◌<◌, inl, inr, ℕ, ◌+◌, true, false, List, [], ◌∷◌, ◌++◌, length, All, Option, Some, None, refl, sym, subst, ap, arith, ne_eqb}
use Rattle.std.proofs.lemmas.Bool.{cases_eq}
use Rattle.std.proofs.lemmas.List.Sums.{sum_by-cons}
use Rattle.std.specs.Option.{option_to_list}
use Rattle.std.proofs.lemmas.List.Elements.{All-nil, All-cons}
use Rattle.nomos_ir.specs.Order.{count_of}
use Rattle.nomos_ir.specs.declared.ids.TypeId.{TypeId}
use Rattle.nomos_ir.specs.declared.mode.Mode.{Mode}
use Rattle.nomos_ir.specs.declared.mode.Mode.TheVariants as mode
use Rattle.nomos_ir.proofs.SumLaws.{count-first}
use Rattle.nomos_types.specs.Acceptance.{Acceptance, IsAccepted}
use Rattle.nomos_types.specs.Judgement.{is_shared_mode}
use Rattle.nomos_types.specs.Modes.{HasMode}
use Rattle.nomos_types.proofs.ToldModeLaws.{type-shows_shared}
use Rattle.nomos_types.proofs.ModeLaws.{mode-unique}
use Rattle.nomos_types.proofs.OccurrenceLaws.{count-elsewhere}
use Rattle.nomos_machine.specs.Change.{Change, no_change, made}
use Rattle.nomos_machine.specs.Objects.{object_number, provided, used, based, shared_names, shared_of, mentioned, times}
use Rattle.nomos_machine.specs.Sight.{shows_shared, is_shared_name}
use Rattle.nomos_machine.specs.State.{State, NameTypes, type_of}
use Rattle.nomos_machine.specs.TypedState.{HasVariables, IsOwned, ObjectTyped, LeadsToBase, IsTyped}
use Rattle.nomos_machine.specs.declared.object.Object.{Object}
use Rattle.nomos_machine.specs.declared.object.Object.TheVariants as object
use Rattle.nomos_machine.specs.declared.object.Process.{Process}
use Rattle.nomos_machine.proofs.ChangeLaws.{Replaces, news}
use Rattle.nomos_machine.proofs.FitLaws.{Fits}
use Rattle.nomos_machine.proofs.NameLaws.{mentioned-sum, type_of-added, type_of-below, type_of-kept, type_of-other}
use Rattle.nomos_machine.proofs.OwnedLaws.{made-times, CountsAsBefore, owned-as_before, unmentioned, next-unmentioned}

-- The change by which a process comes and others are changed; these are the outside names afterwards, and an account
-- may give something for it.
abbrev pub birth : State → List ℕ → List (ℕ × Option Object) → Process → TypeId → Option (ℕ × ℕ) → Change
birth s outside places child t gives = record (no_change s) {
  places = places;
  comes = Some (object.Process child);
  next_type = Some t;
  outside = outside;
  gives = gives;
}

-- how often a name of this mode is used that comes with a process: once at mode R, and otherwise not
abbrev pub uses_at : Mode → ℕ
uses_at mode.R = 1
uses_at _ = 0

-- ---- shared names

-- an object stands for a name that it provides or has as base
stands-one : (name : ℕ) (m : Mode) (offers : ℕ) (base : Option ℕ)
    → count_of name (shared_of m offers base) ≤ count_of name (offers ∷ []) + count_of name (option_to_list base)
stands-one name mode.S offers base = omega arith
stands-one name mode.L offers base = omega arith
stands-one name mode.R offers base = omega arith
stands-one name mode.T offers base = omega arith

stands-object : (name : ℕ) (o : Object)
    → count_of name (shared_names o) ≤ count_of name (provided o) + count_of name (based o)
stands-object name (object.Process p) = stands-one name p.mode p.offers p.base
stands-object name (object.Message m) = omega arith

pub stands-mentioned : (objects : List Object) (name : ℕ)
    → times shared_names objects name ≤ times provided objects name + times based objects name
stands-mentioned [] name = omega arith
stands-mentioned (o ∷ objects) name =
    omega (
      arith,
      stands-object name o,
      stands-mentioned objects name,
      sum_by-cons (λ (d : Object). count_of name (shared_names d)) o objects,
      sum_by-cons (λ (d : Object). count_of name (provided d)) o objects,
      sum_by-cons (λ (d : Object). count_of name (based d)) o objects,
    )

pub unshared-mode : (m : Mode) → m ≢ mode.S → is_shared_mode m ≡ false
unshared-mode mode.S other = absurd (other refl)
unshared-mode mode.R other = refl
unshared-mode mode.L other = refl
unshared-mode mode.T other = refl

module _ {a : Acceptance} (accepted : IsAccepted a) where
  -- the head of its type shows that a name of another mode is not shared
  pub unshared-shown : (types : NameTypes) (name : ℕ) (t : TypeId) (m : Mode) → type_of types name ≡ Some t
      → HasMode a.program t m → m ≢ mode.S → is_shared_name a.program types name ≡ false
  unshared-shown types name t m found at other =
      ap (shows_shared a.program) found ∙ type-shows_shared accepted.typed.formed m at ∙ unshared-mode m other

  -- a name of mode S is
  pub shared-shown : (types : NameTypes) (name : ℕ) (t : TypeId) → type_of types name ≡ Some t
      → HasMode a.program t mode.S → is_shared_name a.program types name ≡ true
  shared-shown types name t found at =
      ap (shows_shared a.program) found ∙ type-shows_shared accepted.typed.formed mode.S at

-- the next name has no type, so it shows nothing
pub next-unshown : {a : Acceptance} {s : State} → IsTyped a s → is_shared_name a.program s.types s.next_name ≡ false
next-unshown {a} {s} typed = shown (type_of s.types s.next_name) refl
  where
    shown : (o : Option TypeId) → type_of s.types s.next_name ≡ o → shows_shared a.program o ≡ false
    shown (Some t) found =
        absurd (omega (arith, type_of-below s.types s.next_name s.next_name t typed.numbered.names found))
    shown None found = refl

-- ---- what a birth has to be

pub record IsBirth (a : Acceptance) (s : State) (outside : List ℕ) (places : List (ℕ × Option Object))
    (olds : List Object) (child : Process) (t : TypeId) (gives : Option (ℕ × ℕ)) : Type 0 where
  pub replaces : Replaces places s.objects olds
  -- the process that comes has the next number, offers the next name, and is at no mode at which it has a base
  pub numbered : child.pid ≡ s.next_object
  pub offers : child.offers ≡ s.next_name
  pub at : HasMode a.program t child.mode
  pub not_l : child.mode ≢ mode.L
  -- what is changed provides what it provided, and stands for what it stood for
  pub provides : (name : ℕ) → times provided (news places) name ≡ times provided olds name
  pub stands : (name : ℕ) → times shared_names (news places) name ≡ times shared_names olds name
  -- all names but shared ones are used as often as they were, and the next one as its mode wants it, maybe from outside
  pub uses : (name : ℕ) → name ≢ s.next_name → is_shared_name a.program s.types name ≡ false
      → times used (news places) name + count_of name (used (object.Process child)) ≡ times used olds name
  pub uses_next : child.mode ≢ mode.S
      → times used (news places) s.next_name + count_of s.next_name (used (object.Process child))
      + count_of s.next_name outside
      ≡ times used olds s.next_name + uses_at child.mode
  pub outside_others : (name : ℕ) → name ≢ s.next_name → count_of name outside ≡ count_of name s.outside
  pub outside_next : child.mode ≢ mode.R → count_of s.next_name outside ≡ 0
  -- sections stay
  pub leads : (base name : ℕ) → LeadsToBase s.objects base name
      → LeadsToBase (made s (birth s outside places child t gives)).objects base name
  -- all that comes is typed
  pub variables : All HasVariables (news places ++ object.Process child ∷ [])
  pub typed : All (ObjectTyped a (made s (birth s outside places child t gives)).types (length s.balances))
      (news places ++ object.Process child ∷ [])

module _ {a : Acceptance} (accepted : IsAccepted a) {s : State} (typed : IsTyped a s) {outside : List ℕ}
    {places : List (ℕ × Option Object)} {olds : List Object} {child : Process} {t : TypeId} {gives : Option (ℕ × ℕ)}
    (is : IsBirth a s outside places olds child t gives) where
  abbrev born : State
  born = made s (birth s outside places child t gives)

  born-times : (does : Object → List ℕ) (name : ℕ)
      → times does born.objects name + times does olds name
      ≡ times does s.objects name + times does (news places) name + count_of name (does (object.Process child))
  born-times does name =
      let sum = made-times does name s (birth s outside places child t gives) olds is.replaces in
      omega (arith, sum)

  -- nothing was done with the next name
  nothing-next : (times provided s.objects s.next_name ≡ 0) × (times used s.objects s.next_name ≡ 0)
      × (times shared_names s.objects s.next_name ≡ 0)
  nothing-next =
      let none = unmentioned typed s.next_name (next-unmentioned typed) in
      (none.0, none.1, omega (arith, stands-mentioned s.objects s.next_name, none.0, none.2))

  offered-once : count_of s.next_name (child.offers ∷ []) ≡ 1
  offered-once = ap (λ (n : ℕ). count_of s.next_name (n ∷ [])) is.offers ∙ count-first s.next_name []

  born-owned_next : (m : Mode) → child.mode ≡ m → IsOwned m born s.next_name
  born-owned_next mode.R same =
      let (none, unused, unshared) = nothing-next in
      let uses = is.uses_next (λ at_s. differ (sym same ∙ at_s)) in
      let once = ap uses_at same in (
        omega (arith, born-times provided s.next_name, is.provides s.next_name, offered-once),
        omega (arith, born-times used s.next_name),
      )
    where
      differ : mode.R ≡ mode.S → ⊥
      differ equal = cc
  born-owned_next mode.S same =
      let (none, unused, unshared) = nothing-next in
      let here : count_of s.next_name (shared_of child.mode child.offers child.base) ≡ 1 =
      ap (λ (k : Mode). count_of s.next_name (shared_of k child.offers child.base)) same ∙ offered-once
      in (
        omega (arith, born-times shared_names s.next_name, is.stands s.next_name),
        is.outside_next (λ at_r. differ (sym same ∙ at_r)),
      )
    where
      differ : mode.S ≡ mode.R → ⊥
      differ equal = cc
  born-owned_next mode.T same =
      let (none, unused, unshared) = nothing-next in
      let uses = is.uses_next (λ at_s. not_s (sym same ∙ at_s)) in
      let never = ap uses_at same in
      let no_outside = is.outside_next (λ at_r. not_r (sym same ∙ at_r)) in (
        omega (arith, born-times provided s.next_name, is.provides s.next_name, offered-once),
        omega (arith, born-times used s.next_name),
        no_outside,
      )
    where
      not_s : mode.T ≡ mode.S → ⊥
      not_s equal = cc

      not_r : mode.T ≡ mode.R → ⊥
      not_r equal = cc
  born-owned_next mode.L same = absurd (is.not_l same)

  -- where an outside party has it, the process that comes is at mode R
  outside-at_r : (m : Mode) → child.mode ≡ m → 1 ≤ count_of s.next_name outside → child.mode ≡ mode.R
  outside-at_r mode.R same some = same
  outside-at_r mode.S same some = absurd (omega (arith, some, is.outside_next (λ at_r. differ (sym same ∙ at_r))))
    where
      differ : mode.S ≡ mode.R → ⊥
      differ equal = cc
  outside-at_r mode.T same some = absurd (omega (arith, some, is.outside_next (λ at_r. differ (sym same ∙ at_r))))
    where
      differ : mode.T ≡ mode.R → ⊥
      differ equal = cc
  outside-at_r mode.L same some = absurd (is.not_l same)

  -- the process that comes does nothing with other names but use them
  other-offer : (name : ℕ) → name ≢ s.next_name → count_of name (child.offers ∷ []) ≡ 0
  other-offer name other =
      let apart : child.offers ≢ name = λ same. other (sym same ∙ is.offers) in
      count-elsewhere name child.offers [] (ne_eqb child.offers name apart)

  other-stands : (name : ℕ) (m : Mode) → child.mode ≡ m → name ≢ s.next_name
      → count_of name (shared_names (object.Process child)) ≡ 0
  other-stands name m same other =
      ap (λ (k : Mode). count_of name (shared_of k child.offers child.base)) same ∙ stands m same
    where
      stands : (m : Mode) → child.mode ≡ m → count_of name (shared_of m child.offers child.base) ≡ 0
      stands mode.S same = other-offer name other
      stands mode.R same = refl
      stands mode.T same = refl
      stands mode.L same = absurd (is.not_l same)

  born-counts : (name : ℕ) (u : TypeId) (m : Mode) → name ≢ s.next_name → type_of s.types name ≡ Some u
      → HasMode a.program u m → CountsAsBefore m s born name
  born-counts name u m other found at = record {
    provided = λ not_s.
        omega (arith, born-times provided name, is.provides name, other-offer name other);
    used = λ not_s.
        let shows = unshared-shown accepted s.types name u m found at not_s in
        omega (arith, born-times used name, is.uses name other shows);
    shared = λ at_s.
        omega (arith, born-times shared_names name, is.stands name, other-stands name child.mode refl other);
    outside = is.outside_others name other;
  }

  born-type : (name : ℕ) → name ≢ s.next_name → type_of born.types name ≡ type_of s.types name
  born-type name other = type_of-other s.types s.next_name name t (λ same. other (sym same))

  born-next : type_of born.types s.next_name ≡ Some t
  born-next = type_of-added s.types s.next_name t typed.numbered.names

  -- a name that has the next one's type has its mode
  next-mode : (u : TypeId) (m : Mode) → type_of born.types s.next_name ≡ Some u → HasMode a.program u m → child.mode ≡ m
  next-mode u m found at =
      let here : type_of born.types s.next_name ≡ Some t = born-next in
      let same : u ≡ t = cc in
      mode-unique accepted.typed.formed.program is.at (subst (λ (r : TypeId). HasMode a.program r m) same at)

  -- an outside name is the next one, or it was one before
  abbrev IsOutside : ℕ → Type 0
  IsOutside name =
      (u : TypeId) × (type_of born.types name ≡ Some u) × HasMode a.program u mode.R
      × (1 ≤ times mentioned born.objects name)

  outside-as : (name : ℕ) → name ≡ s.next_name → 1 ≤ count_of name outside → IsOutside name
  outside-as name same some =
      let at_r = outside-at_r child.mode refl (subst (λ (n : ℕ). 1 ≤ count_of n outside) same some) in
      let once = born-owned_next mode.R at_r in
      let there : 1 ≤ times mentioned born.objects s.next_name =
      omega (arith, mentioned-sum born.objects s.next_name, once.0)
      in
      subst IsOutside (sym same) (t, born-next, subst (λ (m : Mode). HasMode a.program t m) at_r is.at, there)

  outside-still : (name : ℕ) → name ≢ s.next_name → 1 ≤ count_of name outside → IsOutside name
  outside-still name other some =
      let (u, found, at_r) = typed.outside name (omega (arith, some, is.outside_others name other)) in
      let once = typed.owned name u mode.R found at_r in
      let still : 1 ≤ times mentioned born.objects name =
      omega (arith, mentioned-sum born.objects name, born-times provided name, is.provides name, once.0)
      in
      (u, born-type name other ∙ found, at_r, still)

  pub birth-fits : Fits a s (birth s outside places child t gives)
  birth-fits = record {
    olds = olds;
    replaces = is.replaces;
    numbered = All-cons HasNext (object.Process child) [] is.numbered (All-nil HasNext);
    variables = is.variables;
    typed = is.typed;
    owned = λ name u m found at some.
        elim (cases_eq name s.next_name) [
          | inl same ↦ owned-as name same u m found at
          | inr other ↦
              let before = sym (born-type name other) ∙ found in
              owned-as_before m s born name (born-counts name u m other before at) (typed.owned name u m before at)
        ];
    keeps_shared = λ name u found at_s.
        let below : name < s.next_name = type_of-below s.types name s.next_name u typed.numbered.names found in
        (born-counts name u mode.S (λ same. omega arith) found at_s).shared refl;
    outside = λ name some.
        elim (cases_eq name s.next_name) [
          | inl same ↦ outside-as name same some
          | inr other ↦ outside-still name other some
        ];
    sections = λ name u found at_l some.
        let other : name ≢ s.next_name = λ same.
        let found_next : type_of born.types s.next_name ≡ Some u = ap (type_of born.types) (sym same) ∙ found in
        is.not_l (next-mode u mode.L found_next at_l)
        in
        let section = typed.sections name u (sym (born-type name other) ∙ found) at_l in
        record {
          base = section.base;
          leads = is.leads section.base name section.leads;
          shared = section.shared;
          found = type_of-kept s.types ((s.next_name, t) ∷ []) section.base section.shared section.found;
          synchronizing = section.synchronizing;
        };
  }
    where
      HasNext : Object → Type 0
      HasNext o = object_number o ≡ s.next_object

      owned-as : (name : ℕ) → name ≡ s.next_name → (u : TypeId) (m : Mode) → type_of born.types name ≡ Some u
          → HasMode a.program u m → IsOwned m born name
      owned-as name same u m found at =
          let found_next : type_of born.types s.next_name ≡ Some u = ap (type_of born.types) (sym same) ∙ found in
          subst (IsOwned m born) (sym same) (born-owned_next m (next-mode u m found_next at))
