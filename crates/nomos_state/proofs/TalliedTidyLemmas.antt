-- Names that no object mentions, told by tallies, and what becomes of their types.
use Rattle.std.proofs.Common.{◌≡◌, ◌≢◌, ◌∙◌, ◌<◌, inl, inr, ℕ, ◌+◌, ◌==◌, Bool, true, false, not, cond, List, [], ◌∷◌, filter, find, length, All, Contains, IsSome, Some, refl, sym, ap, subst, arith, eqb-true}
use Rattle.std.proofs.lemmas.Bool.{eqb-false, false≢true}
use Rattle.std.proofs.lemmas.List.Elements.{Contains-append_cases, Contains-append_right}
use Rattle.std.specs.List.Sorted.{IsStrictlySortedBy}
use Rattle.std.specs.Option.{option_map}
use Rattle.std.specs.Ordering.{nat_cmp}
use Rattle.nomos_ir.specs.declared.ids.TypeId.{TypeId}
use Rattle.nomos_machine.specs.Change.{is_mentioned, tidied}
use Rattle.nomos_machine.specs.Objects.{times}
use Rattle.nomos_machine.specs.State.{NameTypes, State, type_of}
use Rattle.nomos_machine.specs.declared.object.Object.{Object}
use Rattle.nomos_machine.proofs.NameLaws.{mentioned-sum, mentioned-told}
use Rattle.nomos_machine.proofs.PutLaws.{contains-one}
use Rattle.nomos_slots.specs.Numbers.{numbers}
use Rattle.nomos_slots.specs.declared.numbered.Slot.{Slot}
use Rattle.nomos_state.specs.Tidying.{without_type}
use Rattle.nomos_state.specs.Suspecting.{IsIdle, Suspicion, suspecting}
use Rattle.nomos_state.specs.Tallying.{AreRight, names_of, tallied}
use Rattle.nomos_state.specs.declared.tally.NameUse.{NameUse}
use Rattle.nomos_state.specs.declared.tally.NameUse.TheVariants as doing
use Rattle.nomos_state.specs.declared.tally.Tally.{Tally}
use Rattle.nomos_state.specs.Tallied.{SayRight, no_suspects}

-- ---- who is mentioned, told by tallies

module _ (tallies : List (Slot Tally)) (objects : List Object) (right : AreRight tallies objects) (name : ℕ) where
  pub idle-unmentioned : IsIdle tallies name → is_mentioned objects name ≡ false
  idle-unmentioned idle = by_test (is_mentioned objects name) refl
    where
      by_test : (b : Bool) → is_mentioned objects name ≡ b → b ≡ false
      by_test true is =
          absurd (omega (
            arith,
            (mentioned-told objects name).0 is,
            mentioned-sum objects name,
            right doing.Provides name,
            right doing.Uses name,
            right doing.Bases name,
            idle doing.Provides,
            idle doing.Uses,
            idle doing.Bases,
          ))
      by_test false is = refl

  pub unmentioned-idle : is_mentioned objects name ≡ false → IsIdle tallies name
  unmentioned-idle is doing.Provides =
      omega (arith, (mentioned-told objects name).1 is, mentioned-sum objects name, right doing.Provides name)
  unmentioned-idle is doing.Uses =
      omega (arith, (mentioned-told objects name).1 is, mentioned-sum objects name, right doing.Uses name)
  unmentioned-idle is doing.Bases =
      omega (arith, (mentioned-told objects name).1 is, mentioned-sum objects name, right doing.Bases name)

-- ---- types of names

-- a name that stands in the table has a type
has-type : (types : NameTypes) (e : ℕ × TypeId) → Contains types e → IsSome (type_of types e.0)
has-type [] e there = absurd (omega (arith, there.1))
has-type (d ∷ types) e there = by_test (d.0 == e.0) refl (has-type types e)
  where
    by_test : (b : Bool) → (d.0 == e.0) ≡ b → (Contains types e → IsSome (type_of types e.0))
        → IsSome (option_map (λ (t : ℕ × TypeId). t.1) (cond b (Some d) (find (λ (t : ℕ × TypeId). t.0 == e.0) types)))
    by_test true is rest = refl
    by_test false is rest =
        elim (Contains-append_cases (d ∷ []) types e there) [
          | inl first ↦
              let same : d.0 ≡ e.0 = ap (λ (t : ℕ × TypeId). t.0) (contains-one d e first) in
              absurd (eqb-false d.0 e.0 is same)
          | inr further ↦ rest further
        ]

-- where all pass a test all are kept
all-kept : {X : Type 0} (p : X → Bool) (xs : List X) → ((x : X) → Contains xs x → p x ≡ true) → filter p xs ≡ xs
all-kept p [] passes = refl
all-kept {X} p (x ∷ xs) passes =
    ap (λ (b : Bool). cond b (x ∷ filter p xs) (filter p xs)) (passes x (0, omega arith, refl))
    ∙ ap (λ (ys : List X). x ∷ ys)
    (all-kept p xs (λ y there. passes y (Contains-append_right (x ∷ []) xs y there)))

-- where each name that has a type is mentioned the state is tidy
pub tidy-already : (s : State) → ((name : ℕ) → IsSome (type_of s.types name) → is_mentioned s.objects name ≡ true)
    → tidied s ≡ s
tidy-already s mentioned =
    ap (λ (types : NameTypes). record s { types = types })
    (all-kept (λ t. is_mentioned s.objects t.0) s.types (λ e there. mentioned e.0 (has-type s.types e there)))

-- the table without a name
abbrev without : ℕ → NameTypes → NameTypes
without name types = filter (λ t. not (t.0 == name)) types

-- the table with the names that objects mention
abbrev left : List Object → NameTypes → NameTypes
left objects types = filter (λ t. is_mentioned objects t.0) types

-- a name that no object mentions may lose its type before
without-tidied : (objects : List Object) (name : ℕ) → is_mentioned objects name ≡ false → (types : NameTypes)
    → filter (λ t. is_mentioned objects t.0) (without name types) ≡ filter (λ t. is_mentioned objects t.0) types
without-tidied objects name unmentioned [] = refl
without-tidied objects name unmentioned (e ∷ types) =
    by_test (e.0 == name) refl (without-tidied objects name unmentioned types)
  where
    by_test : (b : Bool) → (e.0 == name) ≡ b → left objects (without name types) ≡ left objects types
        → left objects (cond (not b) (e ∷ without name types) (without name types)) ≡ left objects (e ∷ types)
    by_test true is rest =
        let same : e.0 ≡ name = eqb-true e.0 name is in
        let gone : is_mentioned objects e.0 ≡ false = ap (is_mentioned objects) same ∙ unmentioned in
        rest ∙ sym (ap (λ (b : Bool). cond b (e ∷ left objects types) (left objects types)) gone)
    by_test false is rest = ap (λ (ts : NameTypes). cond (is_mentioned objects e.0) (e ∷ ts) ts) rest

pub dropped-tidied : (s : State) (name : ℕ) → is_mentioned s.objects name ≡ false
    → tidied (without_type name s) ≡ tidied s
dropped-tidied s name unmentioned =
    ap (λ (types : NameTypes). record s { types = types }) (without-tidied s.objects name unmentioned s.types)

-- whether a name has a type in a table whose first pair has the name, or not
abbrev typed_first : ℕ → ℕ × TypeId → Bool → NameTypes → Type 0
typed_first n e c types =
    IsSome (option_map (λ (t : ℕ × TypeId). t.1) (cond c (Some e) (find (λ (t : ℕ × TypeId). t.0 == n) types)))

-- who has a type still is another name, and had it before
still-typed : (name n : ℕ) (types : NameTypes) → IsSome (type_of (without name types) n)
    → (n ≢ name) × IsSome (type_of types n)
still-typed name n [] some = absurd cc
still-typed name n (e ∷ types) some = by_test (e.0 == name) refl (still-typed name n types) some
  where
    kept : (e.0 ≢ name) → (c : Bool) → (e.0 == n) ≡ c
        → (IsSome (type_of (without name types) n) → (n ≢ name) × IsSome (type_of types n))
        → typed_first n e c (without name types) → (n ≢ name) × typed_first n e c types
    kept other true is rest some = (λ same. other (eqb-true e.0 n is ∙ same), refl)
    kept other false is rest some = rest some

    apart : (e.0 == name) ≡ true → (c : Bool) → (e.0 == n) ≡ c → n ≢ name → c ≡ false
    apart is true same other = absurd (other (sym (eqb-true e.0 n same) ∙ eqb-true e.0 name is))
    apart is false same other = refl

    by_test : (b : Bool) → (e.0 == name) ≡ b
        → (IsSome (type_of (without name types) n) → (n ≢ name) × IsSome (type_of types n))
        → IsSome (type_of (cond (not b) (e ∷ without name types) (without name types)) n)
        → (n ≢ name) × IsSome (type_of (e ∷ types) n)
    by_test true is rest some =
        let (other, typed) = rest some in
        (other, subst (λ (c : Bool). typed_first n e c types) (sym (apart is (e.0 == n) refl other)) typed)
    by_test false is rest some = kept (eqb-false e.0 name is) (e.0 == n) refl rest some

-- ---- suspects

-- of suspects behind which this one stands it is this one, or one of the others
suspect-cases : (s : Suspicion) (name n : ℕ) → Contains (suspecting name s).names n → n ≢ name → Contains s.names n
suspect-cases s name n there other =
    elim (Contains-append_cases s.names (name ∷ []) n there) [
      | inl before ↦ before
      | inr last ↦ absurd (other (sym (contains-one name n last)))
    ]

module _ (tallies : List (Slot Tally)) (suspects : Suspicion) (name : ℕ) (s : State)
    (says : SayRight true (suspecting name suspects) tallies s) where
  -- a name with which something is done need not be a suspect
  pub suspect-cleared : (IsIdle tallies name → ⊥) → SayRight true suspects tallies s
  suspect-cleared busy = record {
    order = says.order;
    below = says.below;
    right = says.right;
    suspected = λ exact known n typed idle.
        suspect-cases suspects name n (says.suspected exact known n typed idle)
        (λ same. busy (subst (IsIdle tallies) same idle));
  }

  -- one with which nothing is done loses its type, and its tally
  pub suspect-dropped : (after : List (Slot Tally)) (t : State) → t ≡ without_type name s
      → numbers after ≡ numbers tallies
      → ((d : NameUse) (n : ℕ) → tallied after d n ≡ tallied tallies d n) → SayRight true suspects after t
  suspect-dropped after t is order same = record {
    order = subst (IsStrictlySortedBy nat_cmp) (sym order) says.order;
    below =
        subst (λ (u : State). All (λ m. m < u.next_name + 1) (numbers after)) (sym is)
        (subst (All (λ m. m < s.next_name + 1)) (sym order) says.below);
    right = λ exact d n.
        same d n ∙ says.right exact d n ∙ sym (ap (λ (u : State). times (names_of d) u.objects n) is);
    suspected = λ exact known n typed idle.
        let (other, had) =
        still-typed name n s.types (subst (λ (u : State). IsSome (type_of u.types n)) is typed)
        in
        suspect-cases suspects name n (says.suspected exact known n had (λ d. sym (same d n) ∙ idle d)) other;
  }

-- where there are no suspects the state is tidy
pub no-suspects-tidy : (exact : Bool) (suspects : Suspicion) (tallies : List (Slot Tally)) (s : State)
    → SayRight exact suspects tallies s → exact ≡ true → suspects.lost ≡ false → suspects.names ≡ [] → tidied s ≡ s
no-suspects-tidy exact suspects tallies s says exactly known none =
    tidy-already s (λ name typed. by_test name typed (is_mentioned s.objects name) refl)
  where
    by_test : (name : ℕ) → IsSome (type_of s.types name) → (b : Bool) → is_mentioned s.objects name ≡ b → b ≡ true
    by_test name typed true is = refl
    by_test name typed false is =
        let idle = unmentioned-idle tallies s.objects (says.right exactly) name is in
        let there = says.suspected exactly known name typed idle in
        absurd (omega (arith, there.1, ap (length {A = ℕ}) none))

-- a name that no object mentions has no type where the state is tidy
none-typed : (objects : List Object) (name : ℕ) → is_mentioned objects name ≡ false → (types : NameTypes)
    → IsSome (type_of (left objects types) name) → ⊥
none-typed objects name unmentioned [] typed = cc
none-typed objects name unmentioned (e ∷ types) typed =
    by_test (is_mentioned objects e.0) refl (none-typed objects name unmentioned types) typed
  where
    first : (c : Bool) → (e.0 == name) ≡ c → is_mentioned objects e.0 ≡ true
        → (IsSome (type_of (left objects types) name) → ⊥) → typed_first name e c (left objects types) → ⊥
    first true same mentioned rest some =
        false≢true (sym unmentioned ∙ sym (ap (is_mentioned objects) (eqb-true e.0 name same)) ∙ mentioned)
    first false same mentioned rest some = rest some

    by_test : (b : Bool) → is_mentioned objects e.0 ≡ b → (IsSome (type_of (left objects types) name) → ⊥)
        → IsSome (type_of (cond b (e ∷ left objects types) (left objects types)) name) → ⊥
    by_test true is rest some = first (e.0 == name) refl is rest some
    by_test false is rest some = rest some

-- where the state is tidy no name is a suspect
pub tidied-tallied : (exact : Bool) (suspects : Suspicion) (tallies : List (Slot Tally)) (s t : State)
    → SayRight exact suspects tallies s → t ≡ tidied s → SayRight exact (no_suspects false) tallies t
tidied-tallied exact suspects tallies s t says is =
    subst (SayRight exact (no_suspects false) tallies) (sym is) (record {
      order = says.order;
      below = says.below;
      right = says.right;
      suspected = λ yes known name typed idle.
          let unmentioned = idle-unmentioned tallies s.objects (says.right yes) name idle in
          absurd (untyped name s.types unmentioned typed);
    })
  where
    untyped : (name : ℕ) (types : NameTypes) → is_mentioned s.objects name ≡ false
        → IsSome (type_of (left s.objects types) name) → ⊥
    untyped name types unmentioned typed = none-typed s.objects name unmentioned types typed
