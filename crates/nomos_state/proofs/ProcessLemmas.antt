-- A process becomes another one, where what is held of it changes.
use Rattle.std.proofs.Common.{◌≡◌, ◌∙◌, ℕ, List, IsSome, Option, Some, None, refl, sym, ap, subst}
use Rattle.std.proofs.lemmas.Option.{none-some, same_Some}
use Rattle.std.specs.List.{slice_get}
use Rattle.std.specs.Option.{option_map}
use Rattle.nomos_machine.specs.Optional.{◌>>=◌}
use Rattle.nomos_machine.specs.State.{State, process_at}
use Rattle.nomos_machine.specs.declared.object.Process.{Process}
use Rattle.nomos_changes.specs.SmallChanges.{Becomes, with_process}
use Rattle.nomos_slots.specs.Cells.{name_in}
use Rattle.nomos_slots.specs.Numbers.{found}
use Rattle.nomos_slots.specs.declared.numbered.Slot.{Slot}
use Rattle.nomos_slots.proofs.NumberLaws.{found-at}
use Rattle.nomos_state.specs.Indexed.{Holding, IsHolding, state_of}
use Rattle.nomos_state.specs.Looked.{ProcessIsAt, lists_at, values_at}
use Rattle.nomos_state.specs.Objects.{AscendsIf, FitsLists, FitsRows, ListRow, ValueRow, kept_at, kept_in, process_held}
use Rattle.nomos_state.specs.Placing.{CanPlace, ProcessComes}
use Rattle.nomos_state.specs.Spanning.{HasVariable, Spans}
use Rattle.nomos_state.specs.declared.kept.Kept.{Kept}
use Rattle.nomos_state.specs.declared.kept.Kept.TheVariants as kept
use Rattle.nomos_state.specs.declared.kept.KeptProcess.{KeptProcess}
use Rattle.nomos_state.proofs.PlaceLemmas.{comes-holding, comes-state}

-- what is kept at a place is the item of the slot there
pub slot-kept : (slots : List (Slot Kept)) (place n : ℕ) (k : Kept) → kept_at slots place ≡ Some (n, k)
    → slice_get slots place ≡ Some (record { number = n; item = Some k })
slot-kept slots place n k kept = at (slice_get slots place) refl
  where
    by_item : (s : Slot Kept) (item : Option Kept) → s.item ≡ item → slice_get slots place ≡ Some s
        → slice_get slots place ≡ Some (record { number = n; item = Some k })
    by_item s None gap stands =
        absurd (none-some (n, k)
        (sym (ap (λ (o : Option (Slot Kept)). o >>= kept_in) stands ∙ ap (option_map (λ k. (s.number, k))) gap) ∙ kept))
    by_item s (Some q) some stands =
        let pair : (s.number, q) ≡ (n, k) =
        same_Some (s.number, q) (n, k)
        (sym (ap (λ (o : Option (Slot Kept)). o >>= kept_in) stands ∙ ap (option_map (λ k. (s.number, k))) some)
        ∙ kept) in
        let slot : ℕ → Option Kept → Option (Slot Kept) = λ i item. Some (record { number = i; item = item }) in
        stands
        ∙ ap (slot s.number) some
        ∙ ap (λ (e : ℕ × Kept). slot e.0 (Some e.1)) pair

    at : (o : Option (Slot Kept)) → slice_get slots place ≡ o
        → slice_get slots place ≡ Some (record { number = n; item = Some k })
    at None none = absurd (none-some (n, k) (sym (ap (λ (o : Option (Slot Kept)). o >>= kept_in) none) ∙ kept))
    at (Some s) stands = by_item s s.item refl stands

-- what is found under the number of what is kept at a place
pub found-kept : (h : Holding) → IsHolding h → (place n : ℕ) (k : Kept) → kept_at h.slots place ≡ Some (n, k)
    → found h.slots n ≡ Some k
found-kept h is place n k at =
    found-at h.slots place (record { number = n; item = Some k }) is.ascending (slot-kept h.slots place n k at)

-- its channels stand in its span
pub spans-kept : (h : Holding) → IsHolding h → (place n : ℕ) (k : Kept) → kept_at h.slots place ≡ Some (n, k)
    → (w : ℕ) → IsSome (name_in h.cells n w) → Spans (Some k) w
spans-kept h is place n k at w some = subst (λ o. Spans o w) (found-kept h is place n k at) (is.held n w some)

-- its rows are as it is kept of them
pub rows-kept : (h : Holding) → IsHolding h → (place n : ℕ) (k : KeptProcess)
    → kept_at h.slots place ≡ Some (n, kept.Process k)
    → FitsRows (Some (kept.Process k)) (values_at h place) (lists_at h place)
rows-kept h is place n k at =
    is.fit place (record { number = n; item = Some (kept.Process k) }) (slot-kept h.slots place n (kept.Process k) at)

-- its values ascend, where that is kept of it
pub ascends-kept : (h : Holding) → IsHolding h → (place n : ℕ) (k : KeptProcess)
    → kept_at h.slots place ≡ Some (n, kept.Process k) → AscendsIf k.ascends (values_at h place)
ascends-kept h is place n k at = (rows-kept h is place n k at).0

-- its lists are as it is kept of them
pub lists-kept : (h : Holding) → IsHolding h → (place n : ℕ) (k : KeptProcess)
    → kept_at h.slots place ≡ Some (n, kept.Process k) → FitsLists k.gone k.potential (lists_at h place)
lists-kept h is place n k at = (rows-kept h is place n k at).1

module _ (before after : Holding) (is : IsHolding before) (pid place : ℕ) (k next : KeptProcess) (values : ValueRow)
    (its_lists : ListRow) (at : ProcessIsAt before pid place k)
    (comes : ProcessComes before after pid place next values its_lists)
    (spans : (w : ℕ) → IsSome (name_in after.cells pid w) → HasVariable next.span w)
    (fits : FitsRows (Some (kept.Process next)) values its_lists) where
  can : CanPlace before place pid (kept.Process k) (Some (kept.Process next)) values its_lists after.cells
  can = record {
    stood = slot-kept before.slots place pid (kept.Process k) at.at;
    fits = fits;
    others = comes.others;
    its_own = spans;
  }

  pub process-holding : IsHolding after
  process-holding =
      comes-holding before after is place pid (kept.Process k) (Some (kept.Process next)) values its_lists can comes

  pub process-becomes : (f : Process → Process)
      → f (process_held before.cells pid (values_at before place) (lists_at before place) k)
      ≡ process_held after.cells pid values its_lists next
      → Becomes (state_of before) pid f (state_of after)
  process-becomes f same p found =
      let held = process_held before.cells pid (values_at before place) (lists_at before place) k in
      let is_held : p ≡ held = same_Some p held (sym found ∙ at.found) in
      comes-state before after is place pid (kept.Process k) (Some (kept.Process next)) values its_lists can comes
      ∙ ap (λ (q : Process). with_process pid q (state_of before)) (sym (ap f is_held ∙ same))

-- where a process was found it is not so that there is none
pub not-none : (s : State) (h : Holding) (pid place : ℕ) (k : KeptProcess) → state_of h ≡ s → ProcessIsAt h pid place k
    → process_at s pid ≡ None → ⊥
not-none s h pid place k same at none =
    none-some (process_held h.cells pid (values_at h place) (lists_at h place) k)
    (sym (ap (λ (t : State). process_at t pid) same ∙ none) ∙ at.found)

-- what is told of the process that was found is told of the one that is there
pub told-there : {X : Type 0} (f : Process → X) (s : State) (h : Holding) (pid place : ℕ) (k : KeptProcess)
    → state_of h ≡ s → ProcessIsAt h pid place k → (x : X)
    → x ≡ f (process_held h.cells pid (values_at h place) (lists_at h place) k)
    → Some x ≡ option_map f (process_at s pid)
told-there f s h pid place k same at x is =
    ap (λ y. Some y) is
    ∙ sym (ap (option_map f) (sym (ap (λ (t : State). process_at t pid) same) ∙ at.found))
