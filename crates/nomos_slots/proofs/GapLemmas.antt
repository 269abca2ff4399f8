-- What slots are left, and in what order, where gaps are closed.
use Rattle.std.proofs.Common.{◌≡◌, ◌<◌, ◌≤◌, ◌+◌, ◌-◌, zero, suc, ℕ, true, false, cond, List, [], ◌∷◌, ◌++◌, length, min, get_or, set, take, drop, Some, None, sym, ap, ◌∙◌, arith, append_assoc, drop-set-lt}
use Rattle.std.specs.List.{slice_get}
use Rattle.std.specs.Option.{is_some}
use Rattle.std.proofs.lemmas.List.{at_drop_more, length-set, take_more_set}
use Rattle.std.proofs.lemmas.Option.{get_or_from_slice_get, none-some, slice_get_within}
use Rattle.nomos_slots.specs.Marking.{Marking}
use Rattle.nomos_slots.specs.Numbers.{close_gaps}
use Rattle.nomos_slots.specs.declared.numbered.Slot.{Slot}
use Rattle.nomos_slots.proofs.GapLaws.{filled}

module _ {X : Type 0} where
  -- ---- one slot after the other

  -- a place within has a slot
  pub slot-within : (slots : List (Slot X)) (place : ℕ) → place < length slots → None ≡ slice_get slots place → ⊥
  slot-within [] place l none = absurd (omega arith)
  slot-within (e ∷ slots) zero l none = none-some e none
  slot-within (e ∷ slots) (suc place) l none = slot-within slots place (omega arith) none

  -- the first slots, and of those from another place on the ones with an item
  abbrev pub moved : ℕ → ℕ → List (Slot X) → List (Slot X)
  moved to place slots = take to slots ++ filled (drop place slots)

  moved-split : (to place : ℕ) (slots : List (Slot X)) (s : Slot X) → slice_get slots place ≡ Some s
      → moved to place slots
      ≡ (take to slots ++ cond (is_some s.item) (s ∷ filled (drop (place + 1) slots)) (filled (drop (place + 1) slots)))
  moved-split to place slots s h =
      let l : place < length slots = slice_get_within slots place s h in
      let is : get_or slots place s ≡ s = get_or_from_slice_get slots place s s h in
      at_drop_more (λ xs. take to slots ++ filled xs) slots place s l
      ∙ ap (λ (x : Slot X). take to slots ++ filled (x ∷ drop (place + 1) slots)) is

  pub moved-gap : (to place : ℕ) (slots : List (Slot X)) (s : Slot X) → slice_get slots place ≡ Some s
      → is_some s.item ≡ false → moved to (place + 1) slots ≡ moved to place slots
  moved-gap to place slots s h gap =
      let rest = filled (drop (place + 1) slots) in
      sym (moved-split to place slots s h ∙ ap (λ b. take to slots ++ cond b (s ∷ rest) rest) gap)

  pub moved-up : (to place : ℕ) (slots : List (Slot X)) (s : Slot X) → slice_get slots place ≡ Some s
      → is_some s.item ≡ true → to ≤ place → moved (to + 1) (place + 1) (set slots to s) ≡ moved to place slots
  moved-up to place slots s h has behind =
      let l : place < length slots = slice_get_within slots place s h in
      let rest = filled (drop (place + 1) slots) in
      ap (λ xs. take (to + 1) (set slots to s) ++ filled xs) (drop-set-lt (place + 1) slots to s (omega arith))
      ∙ ap (λ xs. xs ++ rest) (take_more_set slots to s (omega arith))
      ∙ append_assoc (take to slots) (s ∷ []) rest
      ∙ sym (moved-split to place slots s h ∙ ap (λ b. take to slots ++ cond b (s ∷ rest) rest) has)

  -- how far the slots of `old` are moved up: those before `place` are done, and the next one goes to `to`
  pub record IsMoved (start : ℕ) (old : Marking (Slot X)) (to place : ℕ) (kept : Marking (Slot X)) : Type 0 where
    pub from : start ≤ to
    pub behind : to ≤ place
    pub reach : place - start ≤ length old.now - start
    pub len : length kept.now ≡ length old.now
    pub seated : length kept.now ≤ kept.seats
    pub seats : kept.seats ≡ old.seats
    pub room : min old.room (old.seats - length old.now) ≤ kept.room
    pub marked : kept.marked ≡ old.marked
    pub now : moved to place kept.now ≡ close_gaps start old.now

  pub moved-past_gap : (from : ℕ) (old : Marking (Slot X)) (to place : ℕ) (kept : Marking (Slot X)) (s : Slot X)
      → IsMoved from old to place kept → Some s ≡ slice_get kept.now place → is_some s.item ≡ false
      → IsMoved from old to (place + 1) kept
  moved-past_gap from old to place kept s is read gap =
      let l : place < length kept.now = slice_get_within kept.now place s (sym read) in
      record {
        from = is.from;
        behind = omega (arith, is.behind);
        reach = omega (arith, is.len, is.from, is.behind);
        len = is.len;
        seated = is.seated;
        seats = is.seats;
        room = is.room;
        marked = is.marked;
        now = moved-gap to place kept.now s (sym read) gap ∙ is.now;
      }

  pub moved-one_up : (from : ℕ) (old : Marking (Slot X)) (to place : ℕ) (kept new : Marking (Slot X)) (s : Slot X)
      → IsMoved from old to place kept → Some s ≡ slice_get kept.now place → is_some s.item ≡ true
      → new.now ≡ set kept.now to s → new.marked ≡ kept.marked
      → min kept.room (kept.seats - length kept.now) ≤ new.room → new.seats ≡ kept.seats
      → IsMoved from old (to + 1) (place + 1) new
  moved-one_up from old to place kept new s is read has set_to same left seats =
      let l : place < length kept.now = slice_get_within kept.now place s (sym read) in
      let long : length new.now ≡ length kept.now = ap length set_to ∙ length-set kept.now to s in
      record {
        from = omega (arith, is.from);
        behind = omega (arith, is.behind);
        reach = omega (arith, is.len, is.from, is.behind);
        len = long ∙ is.len;
        seated = omega (arith, is.seated);
        seats = seats ∙ is.seats;
        room = omega (arith, is.room, is.seats, is.len, left);
        marked = same ∙ is.marked;
        now =
            ap (moved (to + 1) (place + 1)) set_to
            ∙ moved-up to place kept.now s (sym read) has is.behind
            ∙ is.now;
      }
