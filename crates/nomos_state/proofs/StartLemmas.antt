-- Before the place where numbers over one start, no process and no name over it stands.
use Rattle.std.proofs.Common.{◌≡◌, ◌∙◌, ◌≤◌, ◌<◌, ◌+◌, ◌&&◌, nat_lt, ℕ, Bool, false, List, [], length, Option, Some, None, inl, inr, refl, sym, ap, arith}
use Rattle.std.proofs.lemmas.Bool.{cases_eq, cases_lt, le-ltb}
use Rattle.std.proofs.lemmas.Option.{get_or_from_slice_get, slice_get_past}
use Rattle.std.specs.List.{slice_get, slice_index_or}
use Rattle.std.specs.Option.{option_map}
use Rattle.nomos_ir.specs.declared.ids.TypeId.{TypeId}
use Rattle.nomos_ir.specs.declared.lists.ProgramLists.{ProgramLists}
use Rattle.nomos_deeds.specs.Readers.{looks_linear}
use Rattle.nomos_machine.specs.Optional.{◌>>=◌}
use Rattle.nomos_machine.specs.declared.object.Object.{Object}
use Rattle.nomos_machine.specs.declared.object.Process.{Process}
use Rattle.nomos_slots.proofs.NumberLaws.{BelowAre, below-more, number-read}
use Rattle.nomos_slots.specs.Numbers.{IsAscending, numbers}
use Rattle.nomos_slots.specs.declared.numbered.Slot.{Slot}
use Rattle.nomos_state.specs.Indexed.{Holding}
use Rattle.nomos_state.specs.Objects.{kept_in, object_of, process_held}
use Rattle.nomos_state.specs.Sought.{StandsNotBefore, passes_at, some_passes, typed_at, typed_in}
use Rattle.nomos_state.specs.SlotsOver.{AreNotOver}
use Rattle.nomos_deeds.specs.ProcessWalks.{is_over}
use Rattle.nomos_state.specs.IndexWalks.{is_owned_over}
use Rattle.nomos_state.specs.declared.kept.Kept.{Kept}
use Rattle.nomos_state.specs.declared.kept.Kept.TheVariants as kept

-- numbers below the next one are not over it
pub below-not_over : {X : Type 0} (slots : List (Slot X)) (start after : ℕ) → BelowAre slots start (after + 1)
    → AreNotOver after slots start
below-not_over slots start after below place number before read =
    let is = get_or_from_slice_get (numbers slots) place number 0 read in
    let lower = below place 0 before in
    omega arith

-- where the number at a place is not over it, none before the next place is
pub one-lower : {X : Type 0} (slots : List (Slot X)) (place after : ℕ) (s : Slot X) → IsAscending slots
    → Some s ≡ slice_get slots place → s.number ≤ after → BelowAre slots (place + 1) (after + 1)
one-lower slots place after s order read low =
    below-more slots place (after + 1) s order (sym read) (omega (arith, low))

-- a test that asks for a higher number fails at one that is not over
not-higher : (after number : ℕ) (b : Bool) → number ≤ after → (nat_lt after number && b) ≡ false
not-higher after number b low = ap (λ t. t && b) (le-ltb after number low)

-- no process over the number stands before
pub none-before : (test : Process → Bool) (h : Holding) (after start : ℕ) → AreNotOver after h.slots start
    → StandsNotBefore (is_over after test) h start
none-before test h after start not_over place before = by_slot (slice_get h.slots place) refl
  where
    shown : ℕ × Kept → Option Object
    shown k =
        Some (object_of h.cells k.0 (slice_index_or h.value_rows place []) (slice_index_or h.list_rows place []) k.1)

    by_item : (number : ℕ) (item : Option Kept) → number ≤ after
        → some_passes (is_over after test) (option_map (λ k. (number, k)) item >>= shown) ≡ false
    by_item number None low = refl
    by_item number (Some (kept.Message m)) low = refl
    by_item number (Some (kept.Process p)) low =
        not-higher after number
        (test
        (process_held h.cells number (slice_index_or h.value_rows place []) (slice_index_or h.list_rows place []) p))
        low

    by_slot : (o : Option (Slot Kept)) → slice_get h.slots place ≡ o
        → some_passes (is_over after test) (slice_get h.slots place >>= kept_in >>= shown) ≡ false
    by_slot None there =
        ap (λ (o : Option (Slot Kept)). some_passes (is_over after test) (o >>= kept_in >>= shown)) there
    by_slot (Some s) there =
        ap (λ (o : Option (Slot Kept)). some_passes (is_over after test) (o >>= kept_in >>= shown)) there
        ∙ by_item s.number s.item (not_over place s.number before (number-read h.slots place s there))

-- no name over the number stands before
pub no-name-before : (lists : ProgramLists) (names : List (Slot TypeId)) (after start : ℕ)
    → AreNotOver after names start
    → (place : ℕ) → place < start → some_passes (is_owned_over lists after) (typed_at names place) ≡ false
no-name-before lists names after start not_over place before = by_slot (slice_get names place) refl
  where
    by_item : (number : ℕ) (item : Option TypeId) → number ≤ after
        → some_passes (is_owned_over lists after) (option_map (λ t. (number, t)) item) ≡ false
    by_item number None low = refl
    by_item number (Some t) low = not-higher after number (looks_linear lists t) low

    by_slot : (o : Option (Slot TypeId)) → slice_get names place ≡ o
        → some_passes (is_owned_over lists after) (typed_at names place) ≡ false
    by_slot None there =
        ap (λ (o : Option (Slot TypeId)). some_passes (is_owned_over lists after) (o >>= typed_in)) there
    by_slot (Some s) there =
        ap (λ (o : Option (Slot TypeId)). some_passes (is_owned_over lists after) (o >>= typed_in)) there
        ∙ by_item s.number s.item (not_over place s.number before (number-read names place s there))

-- ---- what stands at no place

-- where a test fails before a place, at which the slots have ended, it fails everywhere
at-none : {X : Type 0} (slots : List (Slot X)) (test : ℕ → Option (Slot X) → Bool) (end : ℕ)
    → ((place : ℕ) → test place None ≡ false) → length slots ≤ end
    → ((before : ℕ) → before < end → test before (slice_get slots before) ≡ false)
    → (place : ℕ) → test place (slice_get slots place) ≡ false
at-none slots test end past ended failed place =
    elim (cases_lt place end) [
      | inl before ↦ failed place before
      | inr after ↦ ap (test place) (slice_get_past slots place (omega arith)) ∙ past place
    ]

pub none-at_all : (test : Object → Bool) (h : Holding) (end : ℕ) → length h.slots ≤ end → StandsNotBefore test h end
    → (place : ℕ) → passes_at test h place ≡ false
none-at_all test h end =
    at-none h.slots (λ place o. some_passes test (o >>= kept_in >>= shown place)) end (λ place. refl)
  where
    shown : ℕ → ℕ × Kept → Option Object
    shown place k =
        Some (object_of h.cells k.0 (slice_index_or h.value_rows place []) (slice_index_or h.list_rows place []) k.1)

pub no-name-at_all : (test : ℕ × TypeId → Bool) (names : List (Slot TypeId)) (end : ℕ) → length names ≤ end
    → ((before : ℕ) → before < end → some_passes test (typed_at names before) ≡ false)
    → (place : ℕ) → some_passes test (typed_at names place) ≡ false
no-name-at_all test names end = at-none names (λ place o. some_passes test (o >>= typed_in)) end (λ place. refl)

-- where a test fails before a place and at it, it fails before the next one
pub one-further : (test : ℕ → Bool) (end : ℕ) → ((before : ℕ) → before < end → test before ≡ false)
    → test end ≡ false → (before : ℕ) → before < end + 1 → test before ≡ false
one-further test end failed here place before =
    elim (cases_eq place end) [
      | inl same ↦ ap test same ∙ here
      | inr other ↦ failed place (omega (arith, before, other))
    ]
