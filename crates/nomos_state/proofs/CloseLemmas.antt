-- What is held, where gaps of objects and of names are closed.
use Rattle.std.proofs.Common.{◌≡◌, ◌≤◌, ◌<◌, ℕ, zero, suc, Bool, true, false, cond, List, [], ◌∷◌, ◌++◌, IfSome, length, Option, Some, None, refl, sym, ap, subst, arith}
use Rattle.std.proofs.lemmas.Option.{none-some, same_Some}
use Rattle.std.specs.Option.{is_some, option_map, option_to_list}
use Rattle.nomos_ir.specs.declared.ids.TypeId.{TypeId}
use Rattle.nomos_machine.specs.declared.object.Object.{Object}
use Rattle.nomos_slots.specs.Beside.{close_rows}
use Rattle.nomos_slots.specs.Cells.{Cell}
use Rattle.nomos_slots.specs.Numbers.{close_gaps}
use Rattle.nomos_slots.specs.declared.numbered.Slot.{Slot}
use Rattle.nomos_slots.proofs.GapLaws.{all-closed, ascending-close, filled, found-close}
use Rattle.nomos_state.specs.Closing.{AreBeside}
use Rattle.nomos_state.specs.Indexed.{Holding, IsHolding, state_of}
use Rattle.nomos_state.specs.Objects.{FitRows, FitsRows, ListRow, ValueRow, object_of, objects_of, types_of}
use Rattle.nomos_state.specs.Spanning.{Spans}
use Rattle.nomos_state.specs.declared.kept.Kept.{Kept}

-- ---- rows

module _ {X R : Type 0} where
  length-filled : (slots : List (Slot X)) (rows : List R) → length rows ≡ length slots
      → length (close_rows zero slots rows) ≡ length (filled slots)
  length-filled [] [] long = refl
  length-filled [] (r ∷ rows) long = absurd (omega arith)
  length-filled (s ∷ slots) [] long = absurd (omega arith)
  length-filled (s ∷ slots) (r ∷ rows) long = at (is_some s.item) (length-filled slots rows (omega arith))
    where
      at : (b : Bool) → length (close_rows zero slots rows) ≡ length (filled slots)
          → length (cond b (r ∷ close_rows zero slots rows) (close_rows zero slots rows))
          ≡ length (cond b (s ∷ filled slots) (filled slots))
      at true rest = omega (arith, rest)
      at false rest = rest

  pub length-closed : (from : ℕ) (slots : List (Slot X)) (rows : List R) → length rows ≡ length slots
      → length (close_rows from slots rows) ≡ length (close_gaps from slots)
  length-closed zero slots rows long = length-filled slots rows long
  length-closed (suc from) [] rows long = refl
  length-closed (suc from) (s ∷ slots) [] long = absurd (omega arith)
  length-closed (suc from) (s ∷ slots) (r ∷ rows) long =
      let rest = length-closed from slots rows (omega arith) in
      omega (arith, rest)

  -- rows that are marked are no more than the slots
  pub beside-late : (slots : Option (List (Slot X))) (rows : Option (List R)) (from : ℕ) → AreBeside slots rows
      → IfSome slots (λ list. length list ≤ from) → IfSome rows (λ list. length list ≤ from)
  beside-late (Some slots) (Some rows) from same late = let few : length slots ≤ from = late in omega (arith, same)
  beside-late None None from same late = tt
  beside-late (Some slots) None from same late = absurd same
  beside-late None (Some rows) from same late = absurd same

-- ---- objects

module _ (cells : List Cell) where
  objects-filled : (slots : List (Slot Kept)) (vs : List ValueRow) (ls : List ListRow) → length vs ≡ length slots
      → length ls ≡ length slots
      → objects_of cells (filled slots) (close_rows zero slots vs) (close_rows zero slots ls) ≡ objects_of cells slots
      vs ls
  objects-filled [] vs ls long also = refl
  objects-filled (s ∷ slots) [] ls long also = absurd (omega arith)
  objects-filled (s ∷ slots) (v ∷ vs) [] long also = absurd (omega arith)
  objects-filled (s ∷ slots) (v ∷ vs) (l ∷ ls) long also =
      at s.item (objects-filled slots vs ls (omega arith) (omega arith))
    where
      slot : Option Kept → Slot Kept
      slot item = record { number = s.number; item = item }

      rest_slots : List (Slot Kept)
      rest_slots = filled slots

      rest_values : List ValueRow
      rest_values = close_rows zero slots vs

      rest_lists : List ListRow
      rest_lists = close_rows zero slots ls

      at : (item : Option Kept) → objects_of cells (filled slots) (close_rows zero slots vs) (close_rows zero slots ls)
          ≡ objects_of cells slots vs ls
          → objects_of cells (cond (is_some item) (record { number = s.number; item = item } ∷ filled slots)
          (filled slots))
          (cond (is_some item) (v ∷ close_rows zero slots vs) (close_rows zero slots vs))
          (cond (is_some item) (l ∷ close_rows zero slots ls) (close_rows zero slots ls))
          ≡ option_to_list (option_map (object_of cells s.number v l) item) ++ objects_of cells slots vs ls
      at None rest = rest
      at (Some k) rest = ap (λ (os : List Object). object_of cells s.number v l k ∷ os) rest

  pub objects-closed : (from : ℕ) (slots : List (Slot Kept)) (vs : List ValueRow) (ls : List ListRow)
      → length vs ≡ length slots → length ls ≡ length slots
      → objects_of cells (close_gaps from slots) (close_rows from slots vs) (close_rows from slots ls)
      ≡ objects_of cells slots vs ls
  objects-closed zero slots vs ls long also = objects-filled slots vs ls long also
  objects-closed (suc from) [] vs ls long also = refl
  objects-closed (suc from) (s ∷ slots) [] ls long also = absurd (omega arith)
  objects-closed (suc from) (s ∷ slots) (v ∷ vs) [] long also = absurd (omega arith)
  objects-closed (suc from) (s ∷ slots) (v ∷ vs) (l ∷ ls) long also =
      ap (λ os. option_to_list (option_map (object_of cells s.number v l) s.item) ++ os)
      (objects-closed from slots vs ls (omega arith) (omega arith))

-- ---- rows that fit what is kept

module _ (s : Slot Kept) (slots : List (Slot Kept)) (v : ValueRow) (vs : List ValueRow) (l : ListRow)
    (ls : List ListRow) where
  fit-head : FitRows (s ∷ slots) (v ∷ vs) (l ∷ ls) → FitsRows s.item v l
  fit-head all = all 0 s refl

  fit-tail : FitRows (s ∷ slots) (v ∷ vs) (l ∷ ls) → FitRows slots vs ls
  fit-tail all place slot at = all (suc place) slot at

  fit-cons : FitsRows s.item v l → FitRows slots vs ls → FitRows (s ∷ slots) (v ∷ vs) (l ∷ ls)
  fit-cons own all zero slot at = subst (λ (x : Slot Kept). FitsRows x.item v l) (same_Some s slot at) own
  fit-cons own all (suc place) slot at = all place slot at

fit-filled : (slots : List (Slot Kept)) (vs : List ValueRow) (ls : List ListRow) → length vs ≡ length slots
    → length ls ≡ length slots → FitRows slots vs ls
    → FitRows (filled slots) (close_rows zero slots vs) (close_rows zero slots ls)
fit-filled [] vs ls long also all = λ place slot at. absurd (none-some slot at)
fit-filled (s ∷ slots) [] ls long also all = absurd (omega arith)
fit-filled (s ∷ slots) (v ∷ vs) [] long also all = absurd (omega arith)
fit-filled (s ∷ slots) (v ∷ vs) (l ∷ ls) long also all =
    at (is_some s.item) (fit-filled slots vs ls (omega arith) (omega arith) (fit-tail s slots v vs l ls all))
  where
    at : (b : Bool) → FitRows (filled slots) (close_rows zero slots vs) (close_rows zero slots ls)
        → FitRows (cond b (s ∷ filled slots) (filled slots))
        (cond b (v ∷ close_rows zero slots vs) (close_rows zero slots vs))
        (cond b (l ∷ close_rows zero slots ls) (close_rows zero slots ls))
    at true rest =
        fit-cons s (filled slots) v (close_rows zero slots vs) l (close_rows zero slots ls)
        (fit-head s slots v vs l ls all) rest
    at false rest = rest

pub fit-closed : (from : ℕ) (slots : List (Slot Kept)) (vs : List ValueRow) (ls : List ListRow)
    → length vs ≡ length slots → length ls ≡ length slots → FitRows slots vs ls
    → FitRows (close_gaps from slots) (close_rows from slots vs) (close_rows from slots ls)
fit-closed zero slots vs ls long also all = fit-filled slots vs ls long also all
fit-closed (suc from) [] vs ls long also all = λ place slot at. absurd (none-some slot at)
fit-closed (suc from) (s ∷ slots) [] ls long also all = absurd (omega arith)
fit-closed (suc from) (s ∷ slots) (v ∷ vs) [] long also all = absurd (omega arith)
fit-closed (suc from) (s ∷ slots) (v ∷ vs) (l ∷ ls) long also all =
    fit-cons s (close_gaps from slots) v (close_rows from slots vs) l (close_rows from slots ls)
    (fit-head s slots v vs l ls all)
    (fit-closed from slots vs ls (omega arith) (omega arith) (fit-tail s slots v vs l ls all))

-- ---- the types of names

types-filled : (names : List (Slot TypeId)) → types_of (filled names) ≡ types_of names
types-filled [] = refl
types-filled (s ∷ names) = at s.item (types-filled names)
  where
    at : (item : Option TypeId) → types_of (filled names) ≡ types_of names
        → types_of (cond (is_some item) (record { number = s.number; item = item } ∷ filled names) (filled names))
        ≡ option_to_list (option_map (λ t. (s.number, t)) item) ++ types_of names
    at None rest = rest
    at (Some t) rest = ap (λ ts. (s.number, t) ∷ ts) rest

pub types-closed : (from : ℕ) (names : List (Slot TypeId)) → types_of (close_gaps from names) ≡ types_of names
types-closed zero names = types-filled names
types-closed (suc from) [] = refl
types-closed (suc from) (s ∷ names) =
    ap (λ ts. option_to_list (option_map (λ t. (s.number, t)) s.item) ++ ts) (types-closed from names)

-- ---- what is held

module _ (h : Holding) (from : ℕ) where
  abbrev pub objects_closed : Holding
  objects_closed = record h {
    slots = close_gaps from h.slots;
    value_rows = close_rows from h.slots h.value_rows;
    list_rows = close_rows from h.slots h.list_rows;
  }

  abbrev pub names_closed : Holding
  names_closed = record h { names = close_gaps from h.names }

  pub state-objects_closed : IsHolding h → state_of objects_closed ≡ state_of h
  state-objects_closed is =
      ap (λ (os : List Object). record (state_of h) { objects = os })
      (objects-closed h.cells from h.slots h.value_rows h.list_rows is.value_rows is.list_rows)

  pub holding-objects_closed : IsHolding h → IsHolding objects_closed
  holding-objects_closed is = record {
    value_rows = length-closed from h.slots h.value_rows is.value_rows;
    list_rows = length-closed from h.slots h.list_rows is.list_rows;
    ascending = ascending-close from h.slots is.ascending;
    below = all-closed (λ n. n < h.drawn.next_object) from h.slots is.below;
    names_ascending = is.names_ascending;
    names_below = is.names_below;
    fit = fit-closed from h.slots h.value_rows h.list_rows is.value_rows is.list_rows is.fit;
    held = λ p v some. subst (λ o. Spans o v) (sym (found-close from h.slots p is.ascending)) (is.held p v some);
  }

  pub holding-names_closed : IsHolding h → IsHolding names_closed
  holding-names_closed is = record {
    value_rows = is.value_rows;
    list_rows = is.list_rows;
    ascending = is.ascending;
    below = is.below;
    names_ascending = ascending-close from h.names is.names_ascending;
    names_below = all-closed (λ n. n < h.drawn.next_name) from h.names is.names_below;
    fit = is.fit;
    held = is.held;
  }

pub objects_closed-is : (h : Holding) (from : ℕ) (slots : List (Slot Kept)) (vs : List ValueRow) (ls : List ListRow)
    → slots ≡ close_gaps from h.slots → vs ≡ close_rows from h.slots h.value_rows
    → ls ≡ close_rows from h.slots h.list_rows
    → objects_closed h from ≡ record h { slots = slots; value_rows = vs; list_rows = ls }
objects_closed-is h from slots vs ls is_slots is_values is_lists =
    let With : List (Slot Kept) → List ValueRow → List ListRow → Holding = λ s v l.
    record h { slots = s; value_rows = v; list_rows = l } in
    let e : With (close_gaps from h.slots) (close_rows from h.slots h.value_rows) (close_rows from h.slots h.list_rows)
    ≡ With slots vs ls = cc in
    e

-- ---- what is marked

-- ---- an indexed state
