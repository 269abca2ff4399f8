-- What stands at the first place that passes a test is what a scan of the objects finds.
use Rattle.std.proofs.Common.{◌≡◌, ◌∙◌, ◌<◌, ℕ, zero, suc, Bool, true, false, cond, List, [], ◌∷◌, ◌++◌, find, length, Option, Some, None, refl, sym, ap, subst, arith}
use Rattle.std.proofs.lemmas.Option.{none-some, same_Some}
use Rattle.std.specs.List.{slice_get, slice_index_or}
use Rattle.std.specs.Option.{MatchOption, option_map, option_to_list}
use Rattle.nomos_machine.specs.Optional.{◌>>=◌}
use Rattle.nomos_machine.specs.declared.object.Object.{Object}
use Rattle.nomos_machine.specs.declared.object.Object.TheVariants as object
use Rattle.nomos_machine.specs.declared.object.Process.{Process}
use Rattle.nomos_deeds.specs.SeenObjects.{seen_process}
use Rattle.nomos_slots.specs.Cells.{Cell}
use Rattle.nomos_slots.specs.declared.numbered.Slot.{Slot}
use Rattle.nomos_state.specs.Indexed.{Holding, IsHolding, standing_at, state_of}
use Rattle.nomos_state.specs.Objects.{FitsRows, HasValue, ListRow, ValueRow, kept_at, kept_in, message_held, object_of, objects_of, process_held}
use Rattle.nomos_state.specs.Sought.{IsFirstPlace, some_passes}
use Rattle.nomos_state.specs.declared.kept.Kept.{Kept}
use Rattle.nomos_state.specs.declared.kept.Kept.TheVariants as kept
use Rattle.nomos_state.specs.declared.kept.KeptMessage.{KeptMessage}
use Rattle.nomos_state.specs.declared.kept.KeptProcess.{KeptProcess}

module _ (cells : List Cell) where
  -- what stands at a place of slots and rows
  abbrev pub standing_in : List (Slot Kept) → List ValueRow → List ListRow → ℕ → Option Object
  standing_in slots vs ls place = kept_at slots place >>= λ k.
      Some (object_of cells k.0 (slice_index_or vs place []) (slice_index_or ls place []) k.1)

  pub first-is : (s : Slot Kept) (slots : List (Slot Kept)) (v : ValueRow) (vs : List ValueRow) (l : ListRow)
      (ls : List ListRow)
      → standing_in (s ∷ slots) (v ∷ vs) (l ∷ ls) 0 ≡ option_map (object_of cells s.number v l) s.item
  first-is s slots v vs l ls = at s.item
    where
      shown : ℕ × Kept → Option Object
      shown k = Some (object_of cells k.0 v l k.1)

      at : (item : Option Kept)
          → (option_map (λ k. (s.number, k)) item >>= shown) ≡ option_map (object_of cells s.number v l) item
      at None = refl
      at (Some k) = refl

module _ (test : Object → Bool) (cells : List Cell) where
  abbrev FirstIn : List (Slot Kept) → List ValueRow → List ListRow → Option ℕ → Type 0
  FirstIn slots vs ls result =
      MatchOption
      result
      ((place : ℕ) → some_passes test (standing_in cells slots vs ls place) ≡ false)
      (λ place. (some_passes test (standing_in cells slots vs ls place) ≡ true)
      × ((before : ℕ) → before < place → some_passes test (standing_in cells slots vs ls before) ≡ false))

  -- the scan goes over the first object, or stops there
  find-first : (o : Option Object) (rest : List Object)
      → find test (option_to_list o ++ rest) ≡ cond (some_passes test o) o (find test rest)
  find-first None rest = refl
  find-first (Some x) rest = refl

  found-in : (slots : List (Slot Kept)) (vs : List ValueRow) (ls : List ListRow) (r : Option ℕ)
      → length vs ≡ length slots → length ls ≡ length slots → FirstIn slots vs ls r
      → find test (objects_of cells slots vs ls) ≡ (r >>= standing_in cells slots vs ls)
  found-in [] vs ls None long also first = refl
  found-in [] vs ls (Some place) long also first = absurd (false-true (first.0))
    where
      false-true : false ≡ true → ⊥
      false-true e = cc
  found-in (s ∷ slots) [] ls r long also first = absurd (omega arith)
  found-in (s ∷ slots) (v ∷ vs) [] r long also first = absurd (omega arith)
  found-in (s ∷ slots) (v ∷ vs) (l ∷ ls) None long also none =
      let o = option_map (object_of cells s.number v l) s.item in
      let here : some_passes test o ≡ false = ap (some_passes test) (sym (first-is cells s slots v vs l ls)) ∙ none 0 in
      find-first o (objects_of cells slots vs ls)
      ∙ ap (λ b. cond b o (find test (objects_of cells slots vs ls))) here
      ∙ found-in slots vs ls None (omega arith) (omega arith) (λ place. none (suc place))
  found-in (s ∷ slots) (v ∷ vs) (l ∷ ls) (Some zero) long also (passed, before) =
      let o = option_map (object_of cells s.number v l) s.item in
      let here : some_passes test o ≡ true = ap (some_passes test) (sym (first-is cells s slots v vs l ls)) ∙ passed in
      find-first o (objects_of cells slots vs ls)
      ∙ ap (λ b. cond b o (find test (objects_of cells slots vs ls))) here
      ∙ sym (first-is cells s slots v vs l ls)
  found-in (s ∷ slots) (v ∷ vs) (l ∷ ls) (Some (suc place)) long also (passed, before) =
      let o = option_map (object_of cells s.number v l) s.item in
      let here : some_passes test o ≡ false =
      ap (some_passes test) (sym (first-is cells s slots v vs l ls)) ∙ before 0 (omega arith)
      in
      find-first o (objects_of cells slots vs ls)
      ∙ ap (λ b. cond b o (find test (objects_of cells slots vs ls))) here
      ∙ found-in slots vs ls (Some place) (omega arith) (omega arith)
      (passed, λ q lower. before (suc q) (omega (arith, lower)))

-- the same of what is held
pub first-found : (test : Object → Bool) (h : Holding) → IsHolding h → (r : Option ℕ) → IsFirstPlace test h r
    → find test (state_of h).objects ≡ (r >>= standing_at h)
first-found test h is r first =
    found-in test h.cells h.slots h.value_rows h.list_rows r is.value_rows is.list_rows first

-- ---- what is kept at a place stands there

abbrev shown_at : Holding → ℕ → ℕ × Kept → Option Object
shown_at h place k =
    Some (object_of h.cells k.0 (slice_index_or h.value_rows place []) (slice_index_or h.list_rows place []) k.1)

pub process-standing : (h : Holding) (place n : ℕ) (k : KeptProcess) → kept_at h.slots place ≡ Some (n, kept.Process k)
    → standing_at h place ≡ Some (object.Process
    (process_held h.cells n (slice_index_or h.value_rows place []) (slice_index_or h.list_rows place []) k))
process-standing h place n k holds = ap (λ (o : Option (ℕ × Kept)). o >>= shown_at h place) holds

pub message-standing : (h : Holding) (place n : ℕ) (k : KeptMessage) → kept_at h.slots place ≡ Some (n, kept.Message k)
    → standing_at h place ≡ Some (object.Message (message_held n (slice_index_or h.value_rows place []) k))
message-standing h place n k holds = ap (λ (o : Option (ℕ × Kept)). o >>= shown_at h place) holds

-- a message that brings a value has it in its row
pub value-standing : (h : Holding) → IsHolding h → (place n : ℕ) (k : KeptMessage)
    → kept_at h.slots place ≡ Some (n, kept.Message k) → HasValue k.brings (slice_index_or h.value_rows place [])
value-standing h is place n k holds = by_slot (slice_get h.slots place) refl holds
  where
    row : ValueRow
    row = slice_index_or h.value_rows place []

    HasIt : Kept → Type 0
    HasIt (kept.Message m) = HasValue m.brings row
    HasIt (kept.Process q) = Unit {0}

    is_message : Kept → Bool
    is_message (kept.Message m) = true
    is_message (kept.Process q) = false

    apart : true ≡ false → ⊥
    apart e = cc

    by_item : (s : Slot Kept) (item : Option Kept) → s.item ≡ item
        → FitsRows item row (slice_index_or h.list_rows place [])
        → (let paired : Kept → ℕ × Kept = λ k. (s.number, k) in option_map paired item) ≡ Some (n, kept.Message k)
        → HasValue k.brings row
    by_item s None is fits same = absurd (none-some (n, kept.Message k) same)
    by_item s (Some (kept.Message q)) is fits same =
        let pair : (n, kept.Message k) ≡ (s.number, kept.Message q) =
        same_Some (n, kept.Message k) (s.number, kept.Message q) (sym same)
        in
        subst (λ (e : ℕ × Kept). HasIt e.1) (sym pair) fits
    by_item s (Some (kept.Process q)) is fits same =
        let pair : (n, kept.Message k) ≡ (s.number, kept.Process q) =
        same_Some (n, kept.Message k) (s.number, kept.Process q) (sym same)
        in
        absurd (apart (ap (λ (e : ℕ × Kept). is_message e.1) pair))

    by_slot : (o : Option (Slot Kept)) → slice_get h.slots place ≡ o → (o >>= kept_in) ≡ Some (n, kept.Message k)
        → HasValue k.brings row
    by_slot None there same = absurd (none-some (n, kept.Message k) same)
    by_slot (Some s) there same = by_item s s.item refl (is.fit place s there) same

-- what is seen of a process has its number
pub pid-seen : (o : Option Process) → option_map (λ p. p.pid) (option_map seen_process o) ≡ option_map (λ p. p.pid) o
pid-seen None = refl
pid-seen (Some p) = refl
