-- The lines of channels, as names are found in ascending order.
use Rattle.std.proofs.Common.{◌≡◌, ◌≢◌, ◌∙◌, ◌<◌, ◌==◌, ℕ, zero, suc, nat_lt, Bool, true, false, cond, List, [], ◌∷◌, ◌++◌, map, find, Contains, Option, Some, None, refl, sym, ap, subst, arith, inl, inr, eqb-true, append-nil}
use Rattle.std.proofs.lemmas.List.Elements.{All-contains, Contains-append_cases, Contains-append_right}
use Rattle.std.proofs.lemmas.Map.Keys.{sorted_head, sorted_tail}
use Rattle.std.specs.List.{flat_map}
use Rattle.std.specs.List.Sorted.{IsStrictlySortedBy}
use Rattle.std.specs.Option.{option_map}
use Rattle.std.specs.Ordering.{nat_cmp}
use Rattle.nomos_ir.specs.declared.ids.TypeId.{TypeId}
use Rattle.nomos_ir.specs.declared.lists.ProgramLists.{ProgramLists}
use Rattle.nomos_types.specs.Acceptance.{Acceptance, IsAccepted}
use Rattle.nomos_machine.specs.Sight.{owner}
use Rattle.nomos_machine.specs.State.{State, NameTypes, type_of}
use Rattle.nomos_machine.specs.TypedState.{Numbered}
use Rattle.nomos_machine.proofs.NameLaws.{type_of-first, type_of-further}
use Rattle.nomos_machine.proofs.PutLaws.{contains-one}
use Rattle.nomos_deeds.specs.Lowest.{LowestOver, NoneOver}
use Rattle.nomos_deeds.specs.Readers.{IsLinearName, IsLinearType, looks_linear}
use Rattle.nomos_deeds.proofs.LinearNameLaws.{looks-linear}
use Rattle.nomos_deeds.proofs.LowestLaws.{over-each}
use Rattle.nomos_report.specs.ShownState.{channel_line, owner_line}
use Rattle.nomos_report.specs.mirror.NamedLines.{line_at, name_line}
use Rattle.nomos_report.specs.mirror.Walked.{walked}
use Rattle.nomos_report.proofs.WalkLemmas.{walked-all, walked-next, walked-none}

-- ---- the table of types

-- a name of a table in order has the type that stands beside it
type_of-own : (types : NameTypes) (e : ℕ × TypeId) → IsStrictlySortedBy nat_cmp (map (λ t. t.0) types)
    → Contains types e → type_of types e.0 ≡ Some e.1
type_of-own [] e order there = absurd (omega (arith, there.1))
type_of-own (t ∷ types) e order there =
    elim (Contains-append_cases (t ∷ []) types e there) [
      | inl first ↦
          let same : t ≡ e = contains-one t e first in
          type_of-first t types e.0 (ap (λ (u : ℕ × TypeId). u.0) same)
          ∙ ap (λ (u : ℕ × TypeId). Some u.1) same
      | inr further ↦
          let rest = map (λ (u : ℕ × TypeId). u.0) types in
          let over = over-each (λ (u : ℕ × TypeId). u.0) t.0 types e (sorted_head nat_cmp t.0 rest order) further in
          let other : t.0 ≢ e.0 = omega (arith, over) in
          type_of-further t types e.0 other ∙ type_of-own types e (sorted_tail nat_cmp t.0 rest order) further
    ]

-- a name that has a type stands beside it in the table
type_of-there : (types : NameTypes) (name : ℕ) (t : TypeId) → type_of types name ≡ Some t → Contains types (name, t)
type_of-there [] name t found = absurd cc
type_of-there (u ∷ types) name t found = at (type_of-there types name t) (u.0 == name) refl found
  where
    at : (type_of types name ≡ Some t → Contains types (name, t)) → (b : Bool) → (u.0 == name) ≡ b
        → option_map (λ e. e.1) (cond b (Some u) (find (λ e. e.0 == name) types)) ≡ Some t
        → Contains (u ∷ types) (name, t)
    at rest true here found =
        let own : u.1 ≡ t = cc in
        let named : u.0 ≡ name = eqb-true u.0 name here in
        (0, omega arith, λ i. (named i, own i))
    at rest false here found = Contains-append_right (u ∷ []) types (name, t) (rest found)

-- ---- the line of a name

-- A name that is used exactly once has the line of its owner, and every other name has none.
module _ (a : Acceptance) (s : State) (accepted : IsAccepted a) where
  pub name-told : (name : ℕ) (found : Option ℕ)
      → (IsLinearName a.program s.types name → found ≡ owner s name)
      → (¬ (IsLinearName a.program s.types name) → found ≡ None)
      → owner_line name found ≡ name_line a s name
  name-told name found linear other = at (type_of s.types name) refl
    where
      look : (t : TypeId) → type_of s.types name ≡ Some t → (b : Bool) → looks_linear a.program t ≡ b
          → owner_line name found ≡ cond b (owner_line name (owner s name)) []
      look t has true looks =
          ap (owner_line name)
          (linear
          (record {
            own = t;
            found = has;
            linear = (looks-linear a t (looks_linear a.program t) accepted refl).0 looks;
          }))
      look t has false looks =
          ap (owner_line name) (other (λ is.
          let same : is.own ≡ t = own-is (type_of s.types name) is.found has in
          differ
          (sym ((looks-linear a t (looks_linear a.program t) accepted refl).1
          (subst (IsLinearType a.program) same is.linear))
          ∙ looks)))
        where
          differ : true ≡ false → ⊥
          differ e = cc

          own-is : {own : TypeId} (o : Option TypeId) → o ≡ Some own → o ≡ Some t → own ≡ t
          own-is o one two = cc

      at : (o : Option TypeId) → type_of s.types name ≡ o → owner_line name found ≡ line_at a s name o
      at (Some t) has = look t has (looks_linear a.program t) refl
      at None has = ap (owner_line name) (other (λ is. lacks (type_of s.types name) is.found has))
        where
          lacks : {own : TypeId} (o : Option TypeId) → o ≡ Some own → o ≡ None → ⊥
          lacks o one two = cc

  -- ---- all names

  module _ (order : IsStrictlySortedBy nat_cmp (map (λ t. t.0) s.types)) where
    -- nothing is printed of other names
    other-silent : (t : ℕ × TypeId) → Contains s.types t → ¬ (IsLinearName a.program s.types t.0)
        → channel_line a s t ≡ []
    other-silent t there other = at (looks_linear a.program t.1) refl
      where
        at : (b : Bool) → looks_linear a.program t.1 ≡ b → cond b (owner_line t.0 (owner s t.0)) [] ≡ []
        at true looks =
            absurd
            (other
            (record {
              own = t.1;
              found = type_of-own s.types t order there;
              linear = (looks-linear a t.1 (looks_linear a.program t.1) accepted refl).0 looks;
            }))
        at false looks = refl

    -- from one name to the next one that is used exactly once, its line comes
    pub names-next : (n m : ℕ) → LowestOver (IsLinearName a.program s.types) n m
        → walked (λ t. t.0) (channel_line a s) m s.types
        ≡ walked (λ t. t.0) (channel_line a s) n s.types ++ name_line a s m
    names-next n m next =
        walked-next (λ (t : ℕ × TypeId). t.0) (channel_line a s) n m s.types (m, next.holds.own) order
        (type_of-there s.types m next.holds.own next.holds.found) refl next.over
        (λ t there more less. other-silent t there (next.lowest t.0 more less))
        ∙ ap (λ (o : Option TypeId). walked (λ t. t.0) (channel_line a s) n s.types ++ line_at a s m o)
        (sym next.holds.found)

    -- where there is no further one, all is printed
    pub names-last : (n : ℕ) → NoneOver (IsLinearName a.program s.types) n
        → walked (λ t. t.0) (channel_line a s) n s.types ≡ flat_map (channel_line a s) s.types
    names-last n none =
        walked-all (λ (t : ℕ × TypeId). t.0) (channel_line a s) n s.types
        (λ t there more. other-silent t there (none t.0 more))

-- a name below all of the table has no type
type_of-below_all : (types : NameTypes) (n : ℕ) → ((t : ℕ × TypeId) → Contains types t → n < t.0)
    → type_of types n ≡ None
type_of-below_all types n over = at (type_of types n) refl
  where
    at : (o : Option TypeId) → type_of types n ≡ o → o ≡ None
    at (Some t) found = absurd (omega (arith, over (n, t) (type_of-there types n t found)))
    at None found = refl

-- what is printed of the names up to 0 is the line of the name 0
pub names-first : (a : Acceptance) (s : State) (types : NameTypes) → IsStrictlySortedBy nat_cmp (map (λ t. t.0) types)
    → walked (λ t. t.0) (channel_line a s) 0 types ≡ line_at a s 0 (type_of types 0)
names-first a s [] order = refl
names-first a s (t ∷ types) order = at (t.0 == 0) refl
  where
    higher : (u : ℕ × TypeId) → Contains types u → t.0 < u.0
    higher u there =
        over-each (λ (v : ℕ × TypeId). v.0) t.0 types u
        (sorted_head nat_cmp t.0 (map (λ (v : ℕ × TypeId). v.0) types) order) there

    at : (b : Bool) → (t.0 == 0) ≡ b
        → walked (λ t. t.0) (channel_line a s) 0 (t ∷ types) ≡ line_at a s 0 (type_of (t ∷ types) 0)
    at true here =
        let zero : t.0 ≡ 0 = eqb-true t.0 0 here in
        let none : walked (λ t. t.0) (channel_line a s) 0 types ≡ [] =
        walked-none (λ (u : ℕ × TypeId). u.0) (channel_line a s) 0 types
        (λ u there. let more = higher u there in omega (arith, more))
        in
        ap (λ (n : ℕ). cond (nat_lt 0 n) [] (channel_line a s t) ++ walked (λ t. t.0) (channel_line a s) 0 types) zero
        ∙ ap (λ (x : List ℕ). channel_line a s t ++ x) none
        ∙ append-nil (channel_line a s t)
        ∙ ap (λ (n : ℕ). channel_line a s (n, t.1)) zero
        ∙ ap (line_at a s 0) (sym (type_of-first t types 0 zero))
    at false other =
        let over : 0 < t.0 = positive t.0 other in
        let all : (u : ℕ × TypeId) → Contains (t ∷ types) u → 0 < u.0 = λ u there.
        elim (Contains-append_cases (t ∷ []) types u there) [
          | inl first ↦ subst (λ (v : ℕ × TypeId). 0 < v.0) (contains-one t u first) over
          | inr further ↦ let more = higher u further in omega (arith, more)
        ]
        in
        walked-none (λ (u : ℕ × TypeId). u.0) (channel_line a s) 0 (t ∷ types) all
        ∙ ap (line_at a s 0) (sym (type_of-below_all (t ∷ types) 0 all))
      where
        positive : (n : ℕ) → (n == 0) ≡ false → 0 < n
        positive zero other = absurd cc
        positive (suc n) other = omega arith

-- a name that has a type is below the next one
pub name-below : (s : State) → Numbered s → (lists : ProgramLists) (name : ℕ) → IsLinearName lists s.types name
    → name < s.next_name
name-below s numbered lists name is =
    All-contains (λ (t : ℕ × TypeId). t.0 < s.next_name) s.types (name, is.own) numbered.names
    (type_of-there s.types name is.own is.found)
