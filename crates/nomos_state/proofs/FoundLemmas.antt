-- What a look by number finds.
use Rattle.std.proofs.Common.{◌≡◌, ◌∙◌, ℕ, [], Option, Some, None, refl, sym, ap}
use Rattle.std.proofs.lemmas.Option.{none-some, same_Some}
use Rattle.std.specs.List.{slice_get, slice_index_or}
use Rattle.std.specs.Option.{option_map}
use Rattle.nomos_machine.specs.Objects.{object_at}
use Rattle.nomos_machine.specs.Optional.{◌>>=◌}
use Rattle.nomos_machine.specs.declared.object.Object.{Object}
use Rattle.nomos_slots.specs.Numbers.{numbers}
use Rattle.nomos_slots.specs.declared.numbered.Slot.{Slot}
use Rattle.nomos_state.specs.Indexed.{Holding, IsHolding, state_of}
use Rattle.nomos_state.specs.Looked.{ObjectIsAt, lists_at, values_at}
use Rattle.nomos_state.specs.Objects.{kept_at, kept_in, object_of}
use Rattle.nomos_state.specs.declared.kept.Kept.{Kept}
use Rattle.nomos_state.proofs.LookLemmas.{number-found, slot-at}

-- nothing is kept under the number, where its slot is a gap
pub found-gap : (h : Holding) → IsHolding h → (place n : ℕ) → slice_get (numbers h.slots) place ≡ Some n
    → kept_at h.slots place ≡ None → object_at (state_of h).objects n ≡ None
found-gap h is place n at gap =
    number-found h is place n at
    ∙ ap (λ (o : Option (ℕ × Kept)). o >>= λ k.
    Some (object_of h.cells k.0 (slice_index_or h.value_rows place []) (slice_index_or h.list_rows place []) k.1)) gap

-- what is kept in the slot of the number is what its object is made of
pub found-kept : (h : Holding) → IsHolding h → (place n m : ℕ) (k : Kept) → slice_get (numbers h.slots) place ≡ Some n
    → kept_at h.slots place ≡ Some (m, k) → ObjectIsAt h n place k
found-kept h is place n m k at holds =
    let (s, stands, same) = slot-at h.slots place n at in
    let own = number-kept s s.item refl (sym (ap (λ (o : Option (Slot Kept)). o >>= kept_in) stands) ∙ holds) in
    let number : m ≡ n = own ∙ same in
    let shown : ℕ → Option Object = λ i. Some (object_of h.cells i (values_at h place) (lists_at h place) k) in
    record {
      at = holds ∙ ap (λ (i : ℕ). Some (i, k)) number;
      found =
          number-found h is place n at
          ∙ ap (λ (o : Option (ℕ × Kept)). o >>= λ k.
          Some (object_of h.cells k.0 (slice_index_or h.value_rows place []) (slice_index_or h.list_rows place []) k.1))
          holds
          ∙ ap shown number;
    }
  where
    number-kept : (s : Slot Kept) (item : Option Kept) → s.item ≡ item → kept_in s ≡ Some (m, k) → m ≡ s.number
    number-kept s None is holds =
        absurd (none-some (m, k) (sym (ap (option_map (λ k. (s.number, k))) is) ∙ holds))
    number-kept s (Some q) is holds =
        ap (λ (e : ℕ × Kept). e.0) (same_Some (m, k) (s.number, q)
        (sym holds ∙ ap (option_map (λ k. (s.number, k))) is))
