-- The objects, where something else stands at a place: another object stands under its number.
use Rattle.std.proofs.Common.{◌≡◌, ◌≢◌, ◌∙◌, ◌<◌, ℕ, zero, suc, cond, List, [], ◌∷◌, ◌++◌, set, length, All, IsSome, Option, Some, None, Less, refl, sym, ap, subst, arith, eq-eqb, ne_eqb, inl, inr}
use Rattle.std.proofs.lemmas.Bool.{cases_eq}
use Rattle.std.proofs.lemmas.Cmp.{ranked}
use Rattle.std.proofs.lemmas.List.{length-set, get_or-set_same, get_or-set_other}
use Rattle.std.proofs.lemmas.List.Elements.{All-head, All-tail}
use Rattle.std.proofs.lemmas.Option.{none-some, same_Some, slice_get_within}
use Rattle.std.specs.List.{slice_get, slice_index_or}
use Rattle.std.specs.List.Sorted.{IsStrictlySortedBy}
use Rattle.std.specs.Ordering.{nat_cmp}
use Rattle.std.specs.Option.{option_map, option_to_list}
use Rattle.nomos_machine.specs.Change as change
use Rattle.nomos_machine.specs.Objects.{object_number}
use Rattle.nomos_machine.specs.declared.object.Object.{Object}
use Rattle.nomos_slots.specs.Cells.{Cell, name_in}
use Rattle.nomos_slots.specs.Numbers.{IsAscending, found, numbers, put_at}
use Rattle.nomos_slots.specs.declared.numbered.Slot.{Slot}
use Rattle.nomos_slots.proofs.NumberLaws.{found-put_at, found-put_at_other, get-put_at, get-put_at_other, length-put_at, numbers-put_at}
use Rattle.nomos_state.specs.Indexed.{Holding, IsHolding, state_of}
use Rattle.nomos_state.specs.Objects.{FitsRows, ListRow, ValueRow, object_of, objects_of}
use Rattle.nomos_state.specs.Placing.{CanPlace, PlaceComes, with_place}
use Rattle.nomos_state.specs.Spanning.{Spans}
use Rattle.nomos_state.specs.declared.kept.Kept.{Kept}
use Rattle.nomos_state.proofs.ChannelLemmas.{object-same}
use Rattle.nomos_state.proofs.LookLemmas.{AllOver, over-other, slots-head, slots-tail, number-own}

-- the object of a slot, if it is no gap
abbrev pub object_in : List Cell → ℕ → ValueRow → ListRow → Option Kept → Option Object
object_in cells n v l item = option_map (object_of cells n v l) item

module _ (before after : List Cell) (n : ℕ) (others : (p v : ℕ) → p ≢ n → name_in after p v ≡ name_in before p v) where
  -- objects of other numbers have the same channels
  object-apart : (m : ℕ) (v : ValueRow) (l : ListRow) (item : Option Kept) → m ≢ n
      → object_in after m v l item ≡ object_in before m v l item
  object-apart m v l None other = refl
  object-apart m v l (Some k) other = ap Some (object-same before after m v l k (λ w. others m w other))

  pub objects-apart : (slots : List (Slot Kept)) (vs : List ValueRow) (ls : List ListRow)
      → All (λ m. m ≢ n) (numbers slots) → objects_of after slots vs ls ≡ objects_of before slots vs ls
  objects-apart [] vs ls apart = refl
  objects-apart (s ∷ slots) [] ls apart = refl
  objects-apart (s ∷ slots) (v ∷ vs) [] apart = refl
  objects-apart (s ∷ slots) (v ∷ vs) (l ∷ ls) apart =
      let other : s.number ≢ n = All-head (λ m. m ≢ n) s.number (numbers slots) apart in
      ap (λ os. option_to_list (object_in after s.number v l s.item) ++ os)
      (objects-apart slots vs ls (All-tail (λ m. m ≢ n) s.number (numbers slots) apart))
      ∙ ap (λ o. option_to_list o ++ objects_of before slots vs ls) (object-apart s.number v l s.item other)

  -- ---- an object in the place of another

  put-own : (new o : Option Object) (k : Kept) (item : Option Kept) (v : ValueRow) (l : ListRow) (rest : List Object)
      → item ≡ Some k
      → change.put_at n new (option_to_list (object_in before n v l item) ++ rest) ≡ option_to_list new ++ rest
  put-own new o k None v l rest is = absurd (none-some k is)
  put-own new o k (Some q) v l rest is =
      ap (λ b. cond b (option_to_list new ++ rest) (object_of before n v l q ∷ change.put_at n new rest))
      (eq-eqb (object_number (object_of before n v l q)) n (number-own before n v l q))

  put-further : (new : Option Object) (m : ℕ) (item : Option Kept) (v : ValueRow) (l : ListRow) (rest : List Object)
      → m ≢ n
      → change.put_at n new (option_to_list (object_in before m v l item) ++ rest)
      ≡ option_to_list (object_in before m v l item) ++ change.put_at n new rest
  put-further new m None v l rest other = refl
  put-further new m (Some q) v l rest other =
      ap (λ b. cond b (option_to_list new ++ rest) (object_of before m v l q ∷ change.put_at n new rest))
      (ne_eqb (object_number (object_of before m v l q)) n (λ same. other (sym (number-own before m v l q) ∙ same)))

  pub objects-put : (slots : List (Slot Kept)) (vs : List ValueRow) (ls : List ListRow) (place : ℕ) (k : Kept)
      (item : Option Kept) (v : ValueRow) (l : ListRow) → length vs ≡ length slots → length ls ≡ length slots
      → IsAscending slots → slice_get slots place ≡ Some (record { number = n; item = Some k })
      → objects_of after (put_at slots place item) (set vs place v) (set ls place l)
      ≡ change.put_at n (object_in after n v l item) (objects_of before slots vs ls)
  objects-put [] vs ls place k item v l long also order at = absurd (none-some _ at)
  objects-put (e ∷ slots) [] ls place k item v l long also order at = absurd (omega arith)
  objects-put (e ∷ slots) (w ∷ vs) [] place k item v l long also order at = absurd (omega arith)
  objects-put (e ∷ slots) (w ∷ vs) (m ∷ ls) zero k item v l long also order at =
      let same = same_Some e (record { number = n; item = Some k }) at in
      let number : e.number ≡ n = ap (λ (s : Slot Kept). s.number) same in
      let is : e.item ≡ Some k = ap (λ (s : Slot Kept). s.item) same in
      let over = over-other e.number slots (slots-head e slots order) in
      let apart : All (λ i. i ≢ n) (numbers slots) = subst (λ j. All (λ i. i ≢ j) (numbers slots)) number over in
      let new = object_in after n v l item in
      let rest = objects_of before slots vs ls in
      ap (λ i. option_to_list (object_in after i v l item) ++ objects_of after slots vs ls) number
      ∙ ap (λ os. option_to_list new ++ os) (objects-apart slots vs ls apart)
      ∙ sym (put-own new None k e.item w m rest is)
      ∙ ap (λ i. change.put_at n new (option_to_list (object_in before i w m e.item) ++ rest)) (sym number)
  objects-put (e ∷ slots) (w ∷ vs) (m ∷ ls) (suc place) k item v l long also order at =
      let other : e.number ≢ n = lower-at slots place (slots-head e slots order) at in
      let new = object_in after n v l item in
      ap (λ os. option_to_list (object_in after e.number w m e.item) ++ os)
      (objects-put slots vs ls place k item v l (omega arith) (omega arith) (slots-tail e slots order) at)
      ∙ ap (λ o. option_to_list o ++ change.put_at n new (objects_of before slots vs ls))
      (object-apart e.number w m e.item other)
      ∙ sym (put-further new e.number e.item w m (objects_of before slots vs ls) other)
    where
      lower-at : (among : List (Slot Kept)) (p : ℕ) → AllOver e.number among
          → slice_get among p ≡ Some (record { number = n; item = Some k }) → e.number ≢ n
      lower-at [] p over at = absurd (none-some _ at)
      lower-at (f ∷ among) zero over at =
          let lower : e.number < f.number = ranked e.number f.number Less (sym over.0) in
          let same : f.number ≡ n = ap (λ (t : Slot Kept). t.number) (same_Some f _ at) in
          omega arith
      lower-at (f ∷ among) (suc p) over at = lower-at among p over.1 at

-- ---- what is held

module _ (h : Holding) (is : IsHolding h) (place n : ℕ) (k : Kept) (item : Option Kept) (v : ValueRow) (l : ListRow)
    (cells : List Cell) (can : CanPlace h place n k item v l cells) where
  abbrev placed : Holding
  placed = with_place place item v l cells h

  -- another object stands under the number, or none
  pub state-placed : state_of placed
      ≡ record (state_of h) { objects = change.put_at n (object_in cells n v l item) (state_of h).objects }
  state-placed =
      ap (λ (os : List Object). record (state_of h) { objects = os })
      (objects-put h.cells cells n can.others h.slots h.value_rows h.list_rows place k item v l is.value_rows
      is.list_rows
      is.ascending can.stood)

  within : place < length h.value_rows
  within = omega (arith, is.value_rows, slice_get_within h.slots place _ can.stood)

  within-lists : place < length h.list_rows
  within-lists = omega (arith, is.list_rows, slice_get_within h.slots place _ can.stood)

  -- the rows at a place, now and before
  abbrev FitThere : ℕ → Option Kept → Type 0
  FitThere other i =
      FitsRows i (slice_index_or (set h.value_rows place v) other [])
      (slice_index_or (set h.list_rows place l) other [])

  fit-placed : (other : ℕ) (slot : Slot Kept) → slice_get (put_at h.slots place item) other ≡ Some slot
      → FitThere other slot.item
  fit-placed other slot at =
      elim (cases_eq other place) [
        | inl same ↦
            let own : slice_get (put_at h.slots place item) other ≡ Some (record { number = n; item = item }) =
            ap (slice_get (put_at h.slots place item)) same ∙ get-put_at h.slots place _ item can.stood in
            let item_is : item ≡ slot.item = ap (λ (s : Slot Kept). s.item) (same_Some _ slot (sym own ∙ at)) in
            let row : v ≡ slice_index_or (set h.value_rows place v) other [] =
            sym (ap (λ i. slice_index_or (set h.value_rows place v) i []) same ∙ get_or-set_same h.value_rows place v []
            within) in
            let list_row : l ≡ slice_index_or (set h.list_rows place l) other [] =
            sym (ap (λ i. slice_index_or (set h.list_rows place l) i []) same ∙ get_or-set_same h.list_rows place l []
            within-lists) in
            subst (FitThere other) item_is
            (subst (λ (ls : ListRow). FitsRows item (slice_index_or (set h.value_rows place v) other []) ls) list_row
            (subst (λ (vs : ValueRow). FitsRows item vs l) row can.fits))
        | inr apart ↦
            let values = slice_index_or h.value_rows other [] in
            let there = is.fit other slot (sym (get-put_at_other h.slots place other item apart) ∙ at) in
            subst (λ (vs : ValueRow). FitsRows slot.item vs (slice_index_or (set h.list_rows place l) other []))
            (sym (get_or-set_other h.value_rows place other v [] apart))
            (subst (λ (ls : ListRow). FitsRows slot.item values ls)
            (sym (get_or-set_other h.list_rows place other l [] apart)) there)
      ]

  held-placed : (p w : ℕ) → IsSome (name_in cells p w) → Spans (found (put_at h.slots place item) p) w
  held-placed p w some =
      elim (cases_eq p n) [
        | inl same ↦
            let own : found (put_at h.slots place item) p ≡ item =
            ap (found (put_at h.slots place item)) same ∙ found-put_at h.slots place _ item is.ascending can.stood in
            subst (λ o. Spans o w) (sym own) (can.its_own w (subst (λ i. IsSome (name_in cells i w)) same some))
        | inr apart ↦
            subst (λ o. Spans o w)
            (sym (found-put_at_other h.slots place p _ item can.stood (λ same. apart (sym same))))
            (is.held p w (subst (λ (o : Option ℕ). IsSome o) (can.others p w apart) some))
      ]

  pub holding-placed : IsHolding placed
  holding-placed =
      let ns = numbers-put_at h.slots place item in
      record {
        value_rows = length-set h.value_rows place v ∙ is.value_rows ∙ sym (length-put_at h.slots place item);
        list_rows = length-set h.list_rows place l ∙ is.list_rows ∙ sym (length-put_at h.slots place item);
        ascending = subst (IsStrictlySortedBy nat_cmp) (sym ns) is.ascending;
        below = subst (λ (xs : List ℕ). All (λ m. m < h.drawn.next_object) xs) (sym ns) is.below;
        names_ascending = is.names_ascending;
        names_below = is.names_below;
        fit = fit-placed;
        held = held-placed;
      }

-- the same of what is held afterwards
module _ (before after : Holding) (is : IsHolding before) (place n : ℕ) (k : Kept) (item : Option Kept) (v : ValueRow)
    (l : ListRow) (can : CanPlace before place n k item v l after.cells)
    (comes : PlaceComes before after n place item v l) where
  after-is : with_place place item v l after.cells before ≡ after
  after-is =
      let slots = comes.slots in
      let value_rows = comes.value_rows in
      let list_rows = comes.list_rows in
      let names = comes.names in
      let balances = comes.balances in
      let outside = comes.outside in
      let results = comes.results in
      let drawn = comes.drawn in
      let e : with_place place item v l after.cells before ≡ record {
        slots = after.slots;
        value_rows = after.value_rows;
        list_rows = after.list_rows;
        cells = after.cells;
        names = after.names;
        balances = after.balances;
        outside = after.outside;
        results = after.results;
        drawn = after.drawn;
      } = cc in
      e

  pub comes-holding : IsHolding after
  comes-holding = subst IsHolding after-is (holding-placed before is place n k item v l after.cells can)

  pub comes-state : state_of after
      ≡ record (state_of before) {
        objects = change.put_at n (object_in after.cells n v l item)
            (state_of before).objects;
      }
  comes-state = ap state_of (sym after-is) ∙ state-placed before is place n k item v l after.cells can
