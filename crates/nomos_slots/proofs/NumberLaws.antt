-- Laws of slots under numbers: what stands under them, and where they stay in order.
use Rattle.std.proofs.Common.{◌≡◌, ◌≢◌, ◌<◌, ◌≤◌, ◌+◌, ◌-◌, zero, suc, ℕ, cond, List, [], ◌∷◌, ◌++◌, length, get_or, set, Option, Some, None, IfSome, All, Less, refl, sym, ap, subst, ◌∙◌, inl, inr, arith, eqb, eq-eqb, ne_eqb}
use Rattle.std.specs.List.{slice_get, AllByRecursion}
use Rattle.std.specs.List.Sorted.{IsStrictlySortedBy}
use Rattle.std.specs.Ordering.{nat_cmp}
use Rattle.std.specs.Cmp.{nat_cmp_is}
use Rattle.std.proofs.lemmas.Cmp.{ranked}
use Rattle.std.proofs.lemmas.Bool.{cases_eq}
use Rattle.std.proofs.lemmas.List.{length-append}
use Rattle.std.proofs.lemmas.List.Elements.{All-head, All-tail}
use Rattle.std.proofs.lemmas.Map.Keys.{below_from_sorted, sorted_head, sorted_tail}
use Rattle.std.proofs.lemmas.Option.{get_or_from_slice_get, none-some, same_Some, slice_get-map, slice_get_within}
use Rattle.nomos_slots.specs.Marking.{Marking}
use Rattle.nomos_slots.specs.Numbers.{found, numbers, put_at, IsAscending, IsInOrder}
use Rattle.nomos_slots.specs.declared.numbered.Slot.{Slot}

pub ascending-nil : (X : Type 0) → IsAscending {X = X} []
unfolding IsStrictlySortedBy
ascending-nil X = tt

module _ {X : Type 0} where
  -- ---- slots in order, one at a time

  -- all numbers are above this one
  abbrev pub AllOver : ℕ → List (Slot X) → Type 0
  AllOver least slots = AllByRecursion (λ n. nat_cmp least n ≡ Less) (numbers slots)

  pub ascending-cons : (s : Slot X) (slots : List (Slot X)) → AllOver s.number slots → IsAscending slots
      → IsAscending (s ∷ slots)
  unfolding IsStrictlySortedBy
  ascending-cons s slots over order = (over, order)

  pub ascending-head : (s : Slot X) (slots : List (Slot X)) → IsAscending (s ∷ slots) → AllOver s.number slots
  ascending-head s slots order = sorted_head nat_cmp s.number (numbers slots) order

  pub ascending-tail : (s : Slot X) (slots : List (Slot X)) → IsAscending (s ∷ slots) → IsAscending slots
  ascending-tail s slots order = sorted_tail nat_cmp s.number (numbers slots) order

  -- ---- one more slot, and another item in one

  over-push : (least : ℕ) (slots : List (Slot X)) (s : Slot X) → AllOver least slots → least < s.number
      → AllOver least (slots ++ s ∷ [])
  over-push least [] s over lower = (sym (nat_cmp_is least s.number Less lower), tt)
  over-push least (e ∷ slots) s over lower = (over.0, over-push least slots s over.1 lower)

  pub ascending-push : (slots : List (Slot X)) (s : Slot X) → IsAscending slots
      → All (λ n. n < s.number) (numbers slots) → IsAscending (slots ++ s ∷ [])
  ascending-push [] s order below = ascending-cons s [] tt order
  ascending-push (e ∷ slots) s order below =
      let lower : e.number < s.number = All-head (λ n. n < s.number) e.number (numbers slots) below in
      let rest = All-tail (λ n. n < s.number) e.number (numbers slots) below in
      ascending-cons e (slots ++ s ∷ [])
      (over-push e.number slots s (ascending-head e slots order) lower)
      (ascending-push slots s (ascending-tail e slots order) rest)

  pub numbers-put_at : (slots : List (Slot X)) (place : ℕ) (item : Option X)
      → numbers (put_at slots place item) ≡ numbers slots
  numbers-put_at [] place item = refl
  numbers-put_at (s ∷ slots) zero item = refl
  numbers-put_at (s ∷ slots) (suc place) item = ap (λ ns. s.number ∷ ns) (numbers-put_at slots place item)

  pub length-put_at : (slots : List (Slot X)) (place : ℕ) (item : Option X)
      → length (put_at slots place item) ≡ length slots
  length-put_at [] place item = refl
  length-put_at (s ∷ slots) zero item = refl
  length-put_at (s ∷ slots) (suc place) item = ap (λ n. suc n) (length-put_at slots place item)

  pub put_at-set : (slots : List (Slot X)) (place : ℕ) (s : Slot X) (item : Option X) → slice_get slots place ≡ Some s
      → set slots place (record { number = s.number; item = item }) ≡ put_at slots place item
  put_at-set [] place s item h = absurd (none-some s h)
  put_at-set (e ∷ slots) zero s item h =
      let changed : Slot X → List (Slot X) = λ x. record { number = x.number; item = item } ∷ slots in
      ap changed (sym (same_Some e s h))
  put_at-set (e ∷ slots) (suc place) s item h = ap (λ xs. e ∷ xs) (put_at-set slots place s item h)

  pub put_at-past : (slots : List (Slot X)) (place : ℕ) (item : Option X) → slice_get slots place ≡ None
      → slots ≡ put_at slots place item
  put_at-past [] place item h = refl
  put_at-past (e ∷ slots) zero item h = absurd (none-some e (sym h))
  put_at-past (e ∷ slots) (suc place) item h = ap (λ xs. e ∷ xs) (put_at-past slots place item h)

  -- ---- what stands under a number

  pub number-read : (slots : List (Slot X)) (place : ℕ) (s : Slot X) → slice_get slots place ≡ Some s
      → slice_get (numbers slots) place ≡ Some s.number
  number-read slots place s h =
      slice_get-map (λ (x : Slot X). x.number) slots place
      ∙ ap (λ (o : Option (Slot X)). elim o as (λ _. Option ℕ) [ None ↦ None | Some x ↦ Some x.number ]) h

  pub found-over : (slots : List (Slot X)) (number : ℕ) → AllOver number slots → found slots number ≡ None
  found-over [] number over = refl
  found-over (e ∷ slots) number over =
      let lower : number < e.number = ranked number e.number Less (sym over.0) in
      ap (λ b. cond b e.item (found slots number)) (ne_eqb e.number number (λ same. absurd (omega arith)))
      ∙ found-over slots number over.1

  -- a number that no slot has
  pub found-none : (slots : List (Slot X)) (number : ℕ) → All (λ n. n ≢ number) (numbers slots)
      → found slots number ≡ None
  found-none [] number not = refl
  found-none (e ∷ slots) number not =
      let here = All-head (λ n. n ≢ number) e.number (numbers slots) not in
      let rest = All-tail (λ n. n ≢ number) e.number (numbers slots) not in
      ap (λ b. cond b e.item (found slots number)) (ne_eqb e.number number here) ∙ found-none slots number rest

  -- the slot that has the number
  pub found-at : (slots : List (Slot X)) (place : ℕ) (s : Slot X) → IsAscending slots → slice_get slots place ≡ Some s
      → found slots s.number ≡ s.item
  found-at [] place s order h = absurd (none-some s h)
  found-at (e ∷ slots) zero s order h =
      ap (λ b. cond b e.item (found slots s.number))
      (eq-eqb e.number s.number (ap (λ (x : Slot X). x.number) (same_Some e s h)))
      ∙ ap (λ (x : Slot X). x.item) (same_Some e s h)
  found-at (e ∷ slots) (suc place) s order h =
      let l : suc place < length (numbers (e ∷ slots)) =
      slice_get_within (numbers (e ∷ slots)) (suc place) s.number (number-read (e ∷ slots) (suc place) s h) in
      let is : get_or (numbers slots) place 0 ≡ s.number =
      get_or_from_slice_get (numbers slots) place s.number 0 (number-read slots place s h) in
      let lower : e.number < get_or (numbers slots) place 0 =
      below_from_sorted (numbers (e ∷ slots)) 0 (suc place) 0 order (omega arith) l in
      ap (λ b. cond b e.item (found slots s.number)) (ne_eqb e.number s.number (λ same. absurd (omega arith)))
      ∙ found-at slots place s (ascending-tail e slots order) h

  -- what is read where the number stands
  pub found-read : (slots : List (Slot X)) (place number : ℕ) (s : Slot X) → IsAscending slots
      → slice_get (numbers slots) place ≡ Some number → slice_get slots place ≡ Some s → s.item ≡ found slots number
  found-read slots place number s order has read =
      let same : s.number ≡ number = same_Some s.number number (sym (number-read slots place s read) ∙ has) in
      sym (found-at slots place s order read) ∙ ap (found slots) same

  -- a place within has a slot
  pub not-past : (slots : List (Slot X)) (place number : ℕ) → slice_get (numbers slots) place ≡ Some number
      → slice_get slots place ≡ None → ⊥
  not-past [] place number has none = none-some number has
  not-past (e ∷ slots) zero number has none = none-some e (sym none)
  not-past (e ∷ slots) (suc place) number has none = not-past slots place number has none

  -- ---- another item at a place

  -- with the item that is there nothing changes
  pub put_at-own : (slots : List (Slot X)) (place : ℕ) (s : Slot X) → slice_get slots place ≡ Some s
      → put_at slots place s.item ≡ slots
  put_at-own [] place s h = refl
  put_at-own (e ∷ slots) zero s h =
      let same : e ≡ s = same_Some e s h in
      let changed : Slot X → List (Slot X) = λ x. record { number = e.number; item = x.item } ∷ slots in
      ap changed (sym same)
  put_at-own (e ∷ slots) (suc place) s h = ap (λ xs. e ∷ xs) (put_at-own slots place s h)

  -- what stands at the place then, and at others
  pub get-put_at : (slots : List (Slot X)) (place : ℕ) (s : Slot X) (item : Option X) → slice_get slots place ≡ Some s
      → slice_get (put_at slots place item) place ≡ Some (record { number = s.number; item = item })
  get-put_at [] place s item h = absurd (none-some s h)
  get-put_at (e ∷ slots) zero s item h =
      ap (λ (x : Slot X). Some (record { number = x.number; item = item })) (same_Some e s h)
  get-put_at (e ∷ slots) (suc place) s item h = get-put_at slots place s item h

  pub get-put_at_other : (slots : List (Slot X)) (place other : ℕ) (item : Option X) → other ≢ place
      → slice_get (put_at slots place item) other ≡ slice_get slots other
  get-put_at_other [] place other item apart = refl
  get-put_at_other (e ∷ slots) zero zero item apart = absurd (apart refl)
  get-put_at_other (e ∷ slots) zero (suc other) item apart = refl
  get-put_at_other (e ∷ slots) (suc place) zero item apart = refl
  get-put_at_other (e ∷ slots) (suc place) (suc other) item apart =
      get-put_at_other slots place other item (λ same. apart (ap (λ n. suc n) same))

  -- what stands under its number then, and under others
  pub found-put_at : (slots : List (Slot X)) (place : ℕ) (s : Slot X) (item : Option X) → IsAscending slots
      → slice_get slots place ≡ Some s → found (put_at slots place item) s.number ≡ item
  found-put_at slots place s item order h =
      found-at (put_at slots place item) place (record { number = s.number; item = item })
      (subst (IsStrictlySortedBy nat_cmp) (sym (numbers-put_at slots place item)) order)
      (get-put_at slots place s item h)

  pub found-put_at_other : (slots : List (Slot X)) (place number : ℕ) (s : Slot X) (item : Option X)
      → slice_get slots place ≡ Some s → s.number ≢ number → found (put_at slots place item) number ≡ found slots number
  found-put_at_other [] place number s item h other = refl
  found-put_at_other (e ∷ slots) zero number s item h other =
      let same : e.number ≡ s.number = ap (λ (x : Slot X). x.number) (same_Some e s h) in
      let apart : e.number ≢ number = λ is. other (sym same ∙ is) in
      ap (λ b. cond b item (found slots number)) (ne_eqb e.number number apart)
      ∙ sym (ap (λ b. cond b e.item (found slots number)) (ne_eqb e.number number apart))
  found-put_at_other (e ∷ slots) (suc place) number s item h other =
      ap (λ o. cond (eqb e.number number) e.item o) (found-put_at_other slots place number s item h other)

  -- ---- one more slot

  pub found-push_other : (slots : List (Slot X)) (s : Slot X) (number : ℕ) → s.number ≢ number
      → found (slots ++ s ∷ []) number ≡ found slots number
  found-push_other [] s number other = ap (λ b. cond b s.item None) (ne_eqb s.number number other)
  found-push_other (e ∷ slots) s number other =
      ap (λ o. cond (eqb e.number number) e.item o) (found-push_other slots s number other)

  pub found-push : (slots : List (Slot X)) (s : Slot X) → All (λ n. n < s.number) (numbers slots)
      → found (slots ++ s ∷ []) s.number ≡ s.item
  found-push [] s below = ap (λ b. cond b s.item None) (eq-eqb s.number s.number refl)
  found-push (e ∷ slots) s below =
      let lower : e.number < s.number = All-head (λ n. n < s.number) e.number (numbers slots) below in
      ap (λ b. cond b e.item (found (slots ++ s ∷ []) s.number))
      (ne_eqb e.number s.number (λ same. absurd (omega arith)))
      ∙ found-push slots s (All-tail (λ n. n < s.number) e.number (numbers slots) below)

  -- ---- halving

  -- below this place all numbers are below
  abbrev pub BelowAre : List (Slot X) → ℕ → ℕ → Type 0
  BelowAre slots from number = (k d : ℕ) → k < from → get_or (numbers slots) k d < number

  -- from this place on all numbers are above
  abbrev pub OnwardsAre : List (Slot X) → ℕ → ℕ → Type 0
  OnwardsAre slots to number = (k d : ℕ) → to ≤ k → k < length (numbers slots) → number < get_or (numbers slots) k d

  pub below-more : (slots : List (Slot X)) (place number : ℕ) (s : Slot X) → IsAscending slots
      → slice_get slots place ≡ Some s → s.number < number → BelowAre slots (place + 1) number
  below-more slots place number s order h lower k d l =
      let ns = numbers slots in
      let read = number-read slots place s h in
      let within : place < length ns = slice_get_within ns place s.number read in
      let is : get_or ns place d ≡ s.number = get_or_from_slice_get ns place s.number d read in
      elim (cases_eq k place) [
        | inl same ↦ let e : get_or ns k d ≡ get_or ns place d = ap (λ i. get_or ns i d) same in omega arith
        | inr apart ↦
            let before : get_or ns k d < get_or ns place d =
            below_from_sorted ns k place d order (omega arith) within in
            omega arith
      ]

  pub onwards-more : (slots : List (Slot X)) (place number : ℕ) (s : Slot X) → IsAscending slots
      → slice_get slots place ≡ Some s → number < s.number → OnwardsAre slots place number
  onwards-more slots place number s order h higher k d from l =
      let ns = numbers slots in
      let read = number-read slots place s h in
      let is : get_or ns place d ≡ s.number = get_or_from_slice_get ns place s.number d read in
      elim (cases_eq k place) [
        | inl same ↦ let e : get_or ns k d ≡ get_or ns place d = ap (λ i. get_or ns i d) same in omega arith
        | inr apart ↦
            let after : get_or ns place d < get_or ns k d = below_from_sorted ns place k d order (omega arith) l in
            omega arith
      ]

  -- ---- the order of all that is kept

  pub in-order : (old new : Marking (Slot X)) → IsInOrder old → IsAscending new.now → new.marked ≡ old.marked
      → length new.now ≤ new.seats → IsInOrder new
  in-order old new order now same seats = record {
    now = now;
    marked = subst (λ m. IfSome m IsAscending) (sym same) order.marked;
    seats = seats;
  }

  pub in-order-new : (new : Marking (Slot X)) → new.now ≡ [] → new.marked ≡ None → IsInOrder new
  in-order-new new now marked = record {
    now = subst IsAscending (sym now) (ascending-nil X);
    marked = subst (λ m. IfSome m IsAscending) (sym marked) tt;
    seats = omega (arith, ap length now);
  }

  pub in-order-push : (old new : Marking (Slot X)) (s : Slot X) → IsInOrder old
      → All (λ n. n < s.number) (numbers old.now) → new.now ≡ old.now ++ s ∷ [] → new.marked ≡ old.marked
      → 0 < old.seats - length old.now → new.seats ≡ old.seats → IsInOrder new
  in-order-push old new s order below is same free seats =
      in-order old new order (subst IsAscending (sym is) (ascending-push old.now s order.now below)) same
      (omega (arith, ap length is, length-append old.now (s ∷ [])))

  pub in-order-put : (old new : Marking (Slot X)) (place : ℕ) (item : Option X) → IsInOrder old
      → new.now ≡ put_at old.now place item → new.marked ≡ old.marked → new.seats ≡ old.seats → IsInOrder new
  in-order-put old new place item order is same seats =
      let again : numbers new.now ≡ numbers old.now = ap numbers is ∙ numbers-put_at old.now place item in
      in-order old new order (subst (IsStrictlySortedBy nat_cmp) (sym again) order.now) same
      (omega (arith, order.seats, length-put_at old.now place item, ap length is))
