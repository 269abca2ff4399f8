-- What rows are left beside slots, and in what order, where gaps are closed.
use Rattle.std.proofs.Common.{◌≡◌, ◌<◌, ◌≤◌, ◌+◌, ◌-◌, zero, suc, ℕ, true, false, cond, List, [], ◌∷◌, ◌++◌, length, get_or, set, take, drop, refl, sym, ap, ◌∙◌, arith, append_assoc, drop-set-lt}
use Rattle.std.specs.Option.{is_some}
use Rattle.std.proofs.lemmas.List.{at_drop_more, length-set, take_more_set, take-set-le}
use Rattle.nomos_slots.specs.Beside.{close_rows, is_held_at}
use Rattle.nomos_slots.specs.Shelving.{Shelving}
use Rattle.nomos_slots.specs.declared.numbered.Slot.{Slot}

-- a row moves up
abbrev pub moved_row : {R : Type 0} → ℕ → ℕ → List R → R → List R
moved_row place to rows d = set (set rows place d) to (get_or rows place d)

module _ {X : Type 0} where
  held-read : (slots : List (Slot X)) (place : ℕ) (d : Slot X) → place < length slots
      → is_held_at slots place ≡ is_some (get_or slots place d).item
  held-read [] place d within = absurd (omega arith)
  held-read (s ∷ slots) zero d within = refl
  held-read (s ∷ slots) (suc place) d within = held-read slots place d (omega arith)

  first-slot : (slots : List (Slot X)) → 0 < length slots → Slot X
  first-slot [] within = absurd (omega arith)
  first-slot (s ∷ slots) within = s

module _ {X R : Type 0} where
  -- ---- one row after the other

  -- the first rows, and of those from another place on the ones beside a slot with an item
  abbrev pub closed : ℕ → ℕ → List (Slot X) → List R → List R
  closed to place slots rows = take to rows ++ close_rows zero (drop place slots) (drop place rows)

  closed-split : (to place : ℕ) (slots : List (Slot X)) (rows : List R) (s : Slot X) (d : R) → place < length slots
      → length rows ≡ length slots
      → closed to place slots rows
      ≡ (take to rows ++ cond (is_held_at slots place)
      (get_or rows place d ∷ close_rows zero (drop (place + 1) slots) (drop (place + 1) rows))
      (close_rows zero (drop (place + 1) slots) (drop (place + 1) rows)))
  closed-split to place slots rows s d within long =
      let rest = close_rows zero (drop (place + 1) slots) (drop (place + 1) rows) in
      at_drop_more (λ xs. take to rows ++ close_rows zero xs (drop place rows)) slots place s within
      ∙ at_drop_more (λ rs. take to rows ++ close_rows zero (get_or slots place s ∷ drop (place + 1) slots) rs)
      rows place d (omega arith)
      ∙ ap (λ b. take to rows ++ cond b (get_or rows place d ∷ rest) rest) (sym (held-read slots place s within))

  pub closed-gap : (to place : ℕ) (slots : List (Slot X)) (rows : List R) (d : R) → place < length slots
      → length rows ≡ length slots → is_held_at slots place ≡ false
      → closed to (place + 1) slots rows ≡ closed to place slots rows
  closed-gap to place slots rows d within long gap =
      let rest = close_rows zero (drop (place + 1) slots) (drop (place + 1) rows) in
      sym (closed-split to place slots rows (first-slot slots (omega arith)) d within long
      ∙ ap (λ b. take to rows ++ cond b (get_or rows place d ∷ rest) rest) gap)

  pub closed-up : (to place : ℕ) (slots : List (Slot X)) (rows : List R) (d : R) → place < length slots
      → length rows ≡ length slots → to ≤ place → is_held_at slots place ≡ true
      → closed (to + 1) (place + 1) slots (moved_row place to rows d) ≡ closed to place slots rows
  closed-up to place slots rows d within long behind held =
      let row = get_or rows place d in
      let between = set rows place d in
      let rest = close_rows zero (drop (place + 1) slots) (drop (place + 1) rows) in
      let fits : to < length between = omega (arith, length-set rows place d) in
      ap (λ rs. take (to + 1) (moved_row place to rows d) ++ close_rows zero (drop (place + 1) slots) rs)
      (drop-set-lt (place + 1) between to row (omega arith) ∙ drop-set-lt (place + 1) rows place d (omega arith))
      ∙ ap (λ rs. rs ++ rest) (take_more_set between to row fits)
      ∙ ap (λ rs. (rs ++ row ∷ []) ++ rest) (take-set-le to rows place d behind)
      ∙ append_assoc (take to rows) (row ∷ []) rest
      ∙ sym (closed-split to place slots rows (first-slot slots (omega arith)) d within long
      ∙ ap (λ b. take to rows ++ cond b (row ∷ rest) rest) held)

  pub closed-start : (from : ℕ) (slots : List (Slot X)) (rows : List R) → length rows ≡ length slots
      → closed from from slots rows ≡ close_rows from slots rows
  closed-start zero slots rows long = refl
  closed-start (suc from) [] [] long = refl
  closed-start (suc from) [] (r ∷ rows) long = absurd (omega arith)
  closed-start (suc from) (s ∷ slots) [] long = absurd (omega arith)
  closed-start (suc from) (s ∷ slots) (r ∷ rows) long = ap (λ rs. r ∷ rs) (closed-start from slots rows (omega arith))

module _ {X R : Type 0} where
  -- how far the rows of `old` are moved up: those before `place` are done, and the next one goes to `to`
  pub record AreClosed (start : ℕ) (slots : List (Slot X)) (old : Shelving R) (to place : ℕ) (rows : Shelving R)
      : Type 0 where
    pub from : start ≤ to
    pub behind : to ≤ place
    pub reach : place - start ≤ length slots - start
    pub len : length rows.now ≡ length slots
    pub room : old.room ≤ rows.room
    pub marked : rows.marked ≡ old.marked
    pub now : closed to place slots rows.now ≡ close_rows start slots old.now

  pub closed-past_gap : (start : ℕ) (slots : List (Slot X)) (old : Shelving R) (to place : ℕ) (rows : Shelving R)
      → AreClosed start slots old to place rows → place < length slots → is_held_at slots place ≡ false
      → AreClosed start slots old to (place + 1) rows
  closed-past_gap start slots old to place rows is within gap = record {
    from = is.from;
    behind = omega (arith, is.behind);
    reach = omega (arith, is.from, is.behind, within);
    len = is.len;
    room = is.room;
    marked = is.marked;
    now = closed-gap to place slots rows.now [] within is.len gap ∙ is.now;
  }

  pub closed-one_up : (start : ℕ) (slots : List (Slot X)) (old : Shelving R) (to place : ℕ) (rows new : Shelving R)
      → AreClosed start slots old to place rows → place < length slots → is_held_at slots place ≡ true
      → new.now ≡ moved_row place to rows.now [] → new.marked ≡ rows.marked → new.room ≡ rows.room
      → AreClosed start slots old (to + 1) (place + 1) new
  closed-one_up start slots old to place rows new is within held moved same room =
      let row = get_or rows.now place [] in
      let long : length new.now ≡ length rows.now =
      ap length moved ∙ length-set (set rows.now place []) to row ∙ length-set rows.now place [] in
      record {
        from = omega (arith, is.from);
        behind = omega (arith, is.behind);
        reach = omega (arith, is.from, is.behind, within);
        len = long ∙ is.len;
        room = omega (arith, is.room, room);
        marked = same ∙ is.marked;
        now =
            ap (closed (to + 1) (place + 1) slots) moved
            ∙ closed-up to place slots rows.now [] within is.len is.behind held
            ∙ is.now;
      }
