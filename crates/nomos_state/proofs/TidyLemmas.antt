-- What becomes of the types of names when names are tidied, and when one comes.
use Rattle.std.proofs.Common.{◌≡◌, ◌≢◌, ◌∙◌, ◌<◌, ◌+◌, ◌==◌, ℕ, zero, suc, Bool, true, false, not, cond, Less, eq-eqb, ne_eqb, List, [], ◌∷◌, ◌++◌, map, filter, take, drop, length, All, Option, Some, None, refl, sym, ap, subst, arith}
use Rattle.std.proofs.lemmas.List.Elements.{All-nil, All-cons, All-head, All-tail}
use Rattle.std.proofs.lemmas.Cmp.{ranked}
use Rattle.std.proofs.lemmas.Option.{none-some, same_Some}
use Rattle.std.specs.List.{slice_get}
use Rattle.std.specs.List.Sorted.{IsStrictlySortedBy}
use Rattle.std.specs.Option.{is_some, option_map, option_to_list}
use Rattle.std.specs.Ordering.{nat_cmp}
use Rattle.nomos_ir.specs.declared.ids.TypeId.{TypeId}
use Rattle.nomos_machine.specs.Change.{is_mentioned}
use Rattle.nomos_machine.specs.State.{NameTypes}
use Rattle.nomos_machine.specs.declared.object.Object.{Object}
use Rattle.nomos_slots.specs.Numbers.{IsAscending, numbers, put_at}
use Rattle.nomos_slots.specs.declared.numbered.Slot.{Slot}
use Rattle.nomos_slots.proofs.NumberLaws.{ascending-push}
use Rattle.nomos_state.specs.Indexed.{Holding, IsHolding}
use Rattle.nomos_state.specs.Objects.{types_of}
use Rattle.nomos_state.specs.Tidying.{tidied_at, tidied_slot}
use Rattle.nomos_state.proofs.LookLemmas.{AllOver, over-other, slots-head, slots-tail}

-- ---- a name comes

pub types-push : (names : List (Slot TypeId)) (n : ℕ) (t : TypeId)
    → types_of (names ++ (record { number = n; item = Some t }) ∷ []) ≡ types_of names ++ (n, t) ∷ []
types-push [] n t = refl
types-push (s ∷ names) n t =
    ap (λ ts. option_to_list (option_map (λ t. (s.number, t)) s.item) ++ ts) (types-push names n t) ∙ at s.item
  where
    more : NameTypes
    more = types_of names

    pair : TypeId → ℕ × TypeId
    pair t = (s.number, t)

    at : (item : Option TypeId)
        → option_to_list (option_map pair item) ++ (more ++ (n, t) ∷ [])
        ≡ (option_to_list (option_map pair item) ++ more) ++ (n, t) ∷ []
    at None = refl
    at (Some x) = refl

-- all numbers are below a higher one, with that of one more slot
pub below-push : (names : List (Slot TypeId)) (n : ℕ) (t : TypeId) → All (λ m. m < n) (numbers names)
    → All (λ m. m < n + 1) (numbers (names ++ (record { number = n; item = Some t }) ∷ []))
below-push [] n t below =
    let here : n < n + 1 = omega arith in
    All-cons (λ m. m < n + 1) n [] here (All-nil (λ m. m < n + 1))
below-push (s ∷ names) n t below =
    let here : s.number < n = All-head (λ m. m < n) s.number (numbers names) below in
    All-cons (λ m. m < n + 1) s.number (numbers (names ++ (record { number = n; item = Some t }) ∷ [])) (omega arith)
    (below-push names n t (All-tail (λ m. m < n) s.number (numbers names) below))

-- ---- names are tidied

module _ (objects : List Object) where
  pub tidied-put : (names : List (Slot TypeId)) (place : ℕ) (s : Slot TypeId) → slice_get names place ≡ Some s
      → is_mentioned objects s.number ≡ false → put_at names place None ≡ tidied_at objects place names
  tidied-put [] place s at not = refl
  tidied-put (e ∷ names) zero s at not =
      let same = same_Some e s at in
      let slot : Option TypeId → List (Slot TypeId) = λ i. record { number = e.number; item = i } ∷ names in
      sym (ap (λ b. slot (cond b e.item None))
      (ap (λ (x : Slot TypeId). is_mentioned objects x.number) same ∙ not))
  tidied-put (e ∷ names) (suc place) s at not = ap (λ xs. e ∷ xs) (tidied-put names place s at not)

  pub tidied-kept : (names : List (Slot TypeId)) (place : ℕ) (s : Slot TypeId) → slice_get names place ≡ Some s
      → is_mentioned objects s.number ≡ true → names ≡ tidied_at objects place names
  tidied-kept [] place s at told = refl
  tidied-kept (e ∷ names) zero s at told =
      let same = same_Some e s at in
      let slot : Option TypeId → List (Slot TypeId) = λ i. record { number = e.number; item = i } ∷ names in
      sym (ap (λ b. slot (cond b e.item None))
      (ap (λ (x : Slot TypeId). is_mentioned objects x.number) same ∙ told))
  tidied-kept (e ∷ names) (suc place) s at told = ap (λ xs. e ∷ xs) (tidied-kept names place s at told)

  pub tidied-gap : (names : List (Slot TypeId)) (place : ℕ) (s : Slot TypeId) → slice_get names place ≡ Some s
      → is_some s.item ≡ false → names ≡ tidied_at objects place names
  tidied-gap [] place s at gap = refl
  tidied-gap (e ∷ names) zero s at gap =
      let same = same_Some e s at in
      let slot : Option TypeId → List (Slot TypeId) = λ i. record { number = e.number; item = i } ∷ names in
      ap slot (none e.item (is_mentioned objects e.number)
      (ap (λ (x : Slot TypeId). is_some x.item) same ∙ gap))
    where
      none : (item : Option TypeId) (b : Bool) → is_some item ≡ false → item ≡ cond b item None
      none None true gap = refl
      none None false gap = refl
      none (Some t) b gap = absurd cc
  tidied-gap (e ∷ names) (suc place) s at gap = ap (λ xs. e ∷ xs) (tidied-gap names place s at gap)

  -- the first names are tidied
  abbrev pub tidied_first : ℕ → List (Slot TypeId) → List (Slot TypeId)
  tidied_first place names = map (tidied_slot objects) (take place names) ++ drop place names

  tidied-more : (names : List (Slot TypeId)) (place : ℕ) → place < length names
      → tidied_at objects place (tidied_first place names) ≡ tidied_first (suc place) names
  tidied-more [] place within = absurd (omega arith)
  tidied-more (e ∷ names) zero within = refl
  tidied-more (e ∷ names) (suc place) within =
      ap (λ xs. tidied_slot objects e ∷ xs) (tidied-more names place (omega arith))

  pub tidied-next : (names : List (Slot TypeId)) (place : ℕ) → place < length names
      → tidied_at objects place (tidied_first place names) ≡ tidied_first (place + 1) names
  tidied-next names place within =
      let same : suc place ≡ place + 1 = omega arith in
      tidied-more names place within ∙ ap (λ (n : ℕ). tidied_first n names) same

  -- the types of names that are mentioned stay
  pub types-tidied : (names : List (Slot TypeId))
      → types_of (map (tidied_slot objects) names) ≡ filter (λ t. is_mentioned objects t.0) (types_of names)
  types-tidied [] = refl
  types-tidied (s ∷ names) = at s.item (is_mentioned objects s.number) refl (types-tidied names)
    where
      keeps : ℕ × TypeId → Bool
      keeps t = is_mentioned objects t.0

      pair : TypeId → ℕ × TypeId
      pair t = (s.number, t)

      at : (item : Option TypeId) (b : Bool) → is_mentioned objects s.number ≡ b
          → types_of (map (tidied_slot objects) names) ≡ filter keeps (types_of names)
          → option_to_list (option_map pair (cond b item None)) ++ types_of (map (tidied_slot objects) names)
          ≡ filter keeps (option_to_list (option_map pair item) ++ types_of names)
      at None true is rest = rest
      at None false is rest = rest
      at (Some t) true is rest =
          ap (λ ts. (s.number, t) ∷ ts) rest
          ∙ sym (ap (λ b. cond b ((s.number, t) ∷ filter keeps (types_of names)) (filter keeps (types_of names))) is)
      at (Some t) false is rest =
          rest
          ∙ sym (ap (λ b. cond b ((s.number, t) ∷ filter keeps (types_of names)) (filter keeps (types_of names))) is)

-- ---- a name goes

module _ (name : ℕ) where
  -- the types of all other names
  abbrev pub other_types : NameTypes → NameTypes
  other_types types = filter (λ t. not (t.0 == name)) types

  abbrev its_types : Slot TypeId → NameTypes
  its_types s = option_to_list (option_map (λ t. (s.number, t)) s.item)

  apart-kept : (n : ℕ) (item : Option TypeId) (rest : NameTypes) → n ≢ name
      → other_types (option_to_list (option_map (λ t. (n, t)) item) ++ rest)
      ≡ option_to_list (option_map (λ t. (n, t)) item) ++ other_types rest
  apart-kept n None rest other = refl
  apart-kept n (Some t) rest other =
      ap (λ b. cond (not b) ((n, t) ∷ other_types rest) (other_types rest)) (ne_eqb n name other)

  own-gone : (n : ℕ) (item : Option TypeId) (rest : NameTypes) → n ≡ name
      → other_types (option_to_list (option_map (λ t. (n, t)) item) ++ rest) ≡ other_types rest
  own-gone n None rest same = refl
  own-gone n (Some t) rest same =
      ap (λ b. cond (not b) ((n, t) ∷ other_types rest) (other_types rest)) (eq-eqb n name same)

  -- where no slot has the number, all types stay
  pub types-absent : (names : List (Slot TypeId)) → All (λ n. n ≢ name) (numbers names)
      → types_of names ≡ other_types (types_of names)
  types-absent [] apart = refl
  types-absent (s ∷ names) apart =
      let other : s.number ≢ name = All-head (λ n. n ≢ name) s.number (numbers names) apart in
      ap (λ ts. its_types s ++ ts) (types-absent names (All-tail (λ n. n ≢ name) s.number (numbers names) apart))
      ∙ sym (apart-kept s.number s.item (types_of names) other)

  -- where the slot of the name becomes a gap, all others stay
  pub types-dropped : (names : List (Slot TypeId)) (place : ℕ) → IsAscending names
      → slice_get (numbers names) place ≡ Some name
      → types_of (put_at names place None) ≡ other_types (types_of names)
  types-dropped [] place order at = absurd (none-some name at)
  types-dropped (s ∷ names) zero order at =
      let same : s.number ≡ name = same_Some s.number name at in
      let apart = over-other s.number names (slots-head s names order) in
      types-absent names (subst (λ m. All (λ n. n ≢ m) (numbers names)) same apart)
      ∙ sym (own-gone s.number s.item (types_of names) same)
  types-dropped (s ∷ names) (suc place) order at =
      let other : s.number ≢ name = lower-at names place (slots-head s names order) at in
      ap (λ ts. its_types s ++ ts) (types-dropped names place (slots-tail s names order) at)
      ∙ sym (apart-kept s.number s.item (types_of names) other)
    where
      lower-at : (among : List (Slot TypeId)) (p : ℕ) → AllOver s.number among
          → slice_get (numbers among) p ≡ Some name → s.number ≢ name
      lower-at [] p over at = absurd (none-some name at)
      lower-at (f ∷ among) zero over at =
          let lower : s.number < f.number = ranked s.number f.number Less (sym over.0) in
          let same : f.number ≡ name = same_Some f.number name at in
          omega arith
      lower-at (f ∷ among) (suc p) over at = lower-at among p over.1 at

-- what is held with other names of the same numbers is in order too
pub holding-named : (h : Holding) (names : List (Slot TypeId)) → IsHolding h → numbers names ≡ numbers h.names
    → IsHolding (record h { names = names })
holding-named h names is same = record {
  value_rows = is.value_rows;
  list_rows = is.list_rows;
  ascending = is.ascending;
  below = is.below;
  names_ascending = subst (IsStrictlySortedBy nat_cmp) (sym same) is.names_ascending;
  names_below = subst (All (λ n. n < h.drawn.next_name)) (sym same) is.names_below;
  fit = is.fit;
  held = is.held;
}

-- so is what is held with one more name
pub holding-come : (h : Holding) (t : TypeId) → IsHolding h
    → IsHolding (record h {
      names = h.names ++ (record { number = h.drawn.next_name; item = Some t }) ∷ [];
      drawn = record h.drawn { next_name = h.drawn.next_name + 1 };
    })
holding-come h t is = record {
  value_rows = is.value_rows;
  list_rows = is.list_rows;
  ascending = is.ascending;
  below = is.below;
  names_ascending = ascending-push h.names (record { number = h.drawn.next_name; item = Some t }) is.names_ascending
      is.names_below;
  names_below = below-push h.names h.drawn.next_name t is.names_below;
  fit = is.fit;
  held = is.held;
}
