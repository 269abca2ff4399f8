-- Lists of numbers in which most are 0.
use Rattle.std.specs.Prelude.{◌≡◌, ◌<◌, ◌≤◌, ℕ, ℤ, pos, List, length, slice_index_or}

-- the numbers in front of a place are 0
abbrev pub IsZeroBefore : ℕ → List ℤ → Type 0
IsZeroBefore first xs = (k : ℕ) → k < first → slice_index_or xs k (pos 0) ≡ pos 0

-- and those from a place on
abbrev pub IsZeroFrom : ℕ → List ℤ → Type 0
IsZeroFrom end xs = (k : ℕ) → end ≤ k → slice_index_or xs k (pos 0) ≡ pos 0

-- all numbers but those from one place up to another are 0
pub record IsZeroOutside (first end : ℕ) (xs : List ℤ) : Type 0 where
  pub ordered : first ≤ end
  pub within : end ≤ length xs
  pub before : IsZeroBefore first xs
  pub behind : IsZeroFrom end xs
