-- The places of rows that are kept in groups.
use Rattle.std.specs.Prelude.{◌≡◌, ◌+◌, ◌<◌, ◌≤◌, ℕ, List, [], ◌∷◌, Option, Some, None, length, take, slice_index_or}
use Rattle.nomos_forms.specs.RowGroups.{rows_in}
use Rattle.nomos_forms.specs.declared.row_group.RowGroup.{RowGroup}

-- the place behind the last row of each group, where n rows come before
abbrev pub ends_after : ℕ → List RowGroup → List ℕ
ends_after n [] = []
ends_after n (group ∷ groups) = (n + length group.leasts.items) ∷ ends_after (n + length group.leasts.items) groups

-- so many groups end before a place, and the next one behind it
pub record EndBefore (groups : List RowGroup) (place k : ℕ) : Type 0 where
  pub within : k ≤ length groups
  pub start : length (rows_in (take k groups)) ≤ place
  pub end : (group : RowGroup) → k < length groups →
      place < length (rows_in (take k groups)) + length (slice_index_or groups k group).leasts.items

-- a place is that of the j-th row of the k-th group, or behind all rows
abbrev pub IsPlaceOf : List RowGroup → ℕ → Option (ℕ × ℕ) → Type 0
IsPlaceOf groups place (Some at) = (at.0 < length groups) × ((group : RowGroup) →
    (at.1 < length (slice_index_or groups at.0 group).leasts.items)
    × (place ≡ length (rows_in (take at.0 groups)) + at.1))
IsPlaceOf groups place None = length (rows_in groups) ≤ place
