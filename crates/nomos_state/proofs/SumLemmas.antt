-- What objects carry, place by place; and the types of names, place by place.
use Rattle.std.proofs.Common.{◌≡◌, ◌∙◌, ◌<◌, ◌+◌, ℕ, zero, suc, Bool, true, false, cond, List, [], ◌∷◌, ◌++◌, find, drop, length, sum_by, Option, Some, None, refl, sym, ap, arith, zero-add}
use Rattle.std.proofs.lemmas.List.Sums.{sum_by-append}
use Rattle.std.specs.Option.{option_map, option_to_list}
use Rattle.nomos_ir.specs.declared.ids.TypeId.{TypeId}
use Rattle.nomos_machine.specs.Objects.{purse_of}
use Rattle.nomos_machine.specs.Optional.{◌>>=◌}
use Rattle.nomos_machine.specs.declared.object.Object.{Object}
use Rattle.nomos_slots.specs.Cells.{Cell}
use Rattle.nomos_slots.specs.declared.numbered.Slot.{Slot}
use Rattle.nomos_state.specs.Indexed.{Holding, IsHolding, standing_at}
use Rattle.nomos_state.specs.Objects.{ListRow, ValueRow, object_of, objects_of, types_of}
use Rattle.nomos_state.specs.Sought.{IsFirstName, some_passes, typed_at, typed_in}
use Rattle.nomos_state.specs.IndexWalks.{purse_in}
use Rattle.nomos_state.specs.declared.kept.Kept.{Kept}
use Rattle.nomos_state.proofs.SeekLemmas.{first-is, standing_in}

-- ---- what objects carry

one-purse : (o : Option Object) → sum_by purse_of (option_to_list o) ≡ purse_in o
one-purse None = refl
one-purse (Some o) = zero-add (purse_of o)

module _ (cells : List Cell) where
  -- what the objects carry from a place on
  abbrev pub carried_from : List (Slot Kept) → List ValueRow → List ListRow → ℕ → ℕ
  carried_from slots vs ls place = sum_by purse_of (objects_of cells (drop place slots) (drop place vs) (drop place ls))

  carried-step : (slots : List (Slot Kept)) (vs : List ValueRow) (ls : List ListRow) (place : ℕ)
      → length vs ≡ length slots → length ls ≡ length slots → place < length slots
      → carried_from slots vs ls place
      ≡ purse_in (standing_in cells slots vs ls place) + carried_from slots vs ls (suc place)
  carried-step [] vs ls place long also within = absurd (omega arith)
  carried-step (s ∷ slots) [] ls place long also within = absurd (omega arith)
  carried-step (s ∷ slots) (v ∷ vs) [] place long also within = absurd (omega arith)
  carried-step (s ∷ slots) (v ∷ vs) (l ∷ ls) zero long also within =
      let o = option_map (object_of cells s.number v l) s.item in
      sum_by-append purse_of (option_to_list o) (objects_of cells slots vs ls)
      ∙ ap (λ (n : ℕ). n + sum_by purse_of (objects_of cells slots vs ls))
      (one-purse o ∙ ap purse_in (sym (first-is cells s slots v vs l ls)))
  carried-step (s ∷ slots) (v ∷ vs) (l ∷ ls) (suc place) long also within =
      carried-step slots vs ls place (omega arith) (omega arith) (omega arith)

-- the same of what is held
abbrev pub carried_on : Holding → ℕ → ℕ
carried_on h place = carried_from h.cells h.slots h.value_rows h.list_rows place

pub carried-next : (h : Holding) → IsHolding h → (place : ℕ) → place < length h.slots
    → carried_on h place ≡ purse_in (standing_at h place) + carried_on h (place + 1)
carried-next h is place within =
    let same : suc place ≡ place + 1 = omega arith in
    carried-step h.cells h.slots h.value_rows h.list_rows place is.value_rows is.list_rows within
    ∙ ap (λ (n : ℕ). purse_in (standing_at h place) + carried_on h n) same

-- ---- names that have types

module _ (test : ℕ × TypeId → Bool) where
  find-name : (o : Option (ℕ × TypeId)) (rest : List (ℕ × TypeId))
      → find test (option_to_list o ++ rest) ≡ cond (some_passes test o) o (find test rest)
  find-name None rest = refl
  find-name (Some x) rest = refl

  -- what stands at the first place that passes is what a scan of the types finds
  pub name-found : (names : List (Slot TypeId)) (r : Option ℕ) → IsFirstName test names r
      → find test (types_of names) ≡ (r >>= typed_at names)
  name-found [] None first = refl
  name-found [] (Some place) first = absurd (false-true first.0)
    where
      false-true : false ≡ true → ⊥
      false-true e = cc
  name-found (s ∷ names) None none =
      find-name (typed_in s) (types_of names)
      ∙ ap (λ b. cond b (typed_in s) (find test (types_of names))) (none 0)
      ∙ name-found names None (λ place. none (suc place))
  name-found (s ∷ names) (Some zero) (passed, before) =
      find-name (typed_in s) (types_of names)
      ∙ ap (λ b. cond b (typed_in s) (find test (types_of names))) passed
  name-found (s ∷ names) (Some (suc place)) (passed, before) =
      find-name (typed_in s) (types_of names)
      ∙ ap (λ b. cond b (typed_in s) (find test (types_of names))) (before 0 (omega arith))
      ∙ name-found names (Some place) (passed, λ q lower. before (suc q) (omega (arith, lower)))
