-- A mirror of the code: the place of a variable among pairs, of which so many first ones ascend.
use Rattle.std.specs.Prelude.{◌≡◌, ◌≢◌, ◌<◌, ◌≤◌, ◌-◌, ℕ, List, Option, Some, None, length, slice_index_or}
use Rattle.nomos_ir.specs.declared.ids.VarId.{VarId}

-- so many first pairs have other variables
abbrev pub StandsNotBelow : {X : Type 0} → List (VarId × X) → VarId → ℕ → Type 0
StandsNotBelow {X} pairs v n = (k : ℕ) (e : VarId × X) → k < n → (slice_index_or pairs k e).0.0 ≢ v.0

-- the first pair of the variable stands here
pub record IsFirstAt {X : Type 0} (pairs : List (VarId × X)) (v : VarId) (place : ℕ) : Type 0 where
  pub there : place < length pairs
  pub here : (e : VarId × X) → (slice_index_or pairs place e).0.0 ≡ v.0
  pub before : StandsNotBelow pairs v place

-- where the first pair of the variable stands; nowhere, where it stands not among so many first pairs
abbrev pub IsPlaceBelow : {X : Type 0} → List (VarId × X) → VarId → ℕ → Option ℕ → Type 0
IsPlaceBelow pairs v n (Some place) = IsFirstAt pairs v place
IsPlaceBelow pairs v n None = StandsNotBelow pairs v n

-- the variables of so many first pairs ascend
pub record Rises {X : Type 0} (pairs : List (VarId × X)) (known : ℕ) : Type 0 where
  pub within : known ≤ length pairs
  pub lower : (i j : ℕ) (e f : VarId × X) → i < j → j < known
      → (slice_index_or pairs i e).0.0 < (slice_index_or pairs j f).0.0

-- a pair stands here, and it has a higher variable than the one before it
abbrev pub IsHigher : {X : Type 0} → List (VarId × X) → ℕ → Type 0
IsHigher {X} pairs at =
    (at < length pairs)
    × ((e f : VarId × X) → 0 < at → (slice_index_or pairs (at - 1) e).0.0 < (slice_index_or pairs at f).0.0)
