-- The places of a list at which numbers are not 0.
use Rattle.std.specs.Prelude.{◌≡◌, ◌+◌, ◌<◌, ◌≤◌, ℕ, ℤ, pos, List, length, slice_index_or}

-- for each place up to the end of a list the next one at which a number is not 0, or the end
pub record SkipsZeros (next : List ℕ) (xs : List ℤ) : Type 0 where
  pub long : length next ≡ length xs + 1
  pub ahead : (i : ℕ) → i ≤ length xs → i ≤ slice_index_or next i 0
  pub within : (i : ℕ) → i ≤ length xs → slice_index_or next i 0 ≤ length xs
  pub zeros : (i k : ℕ) → i ≤ length xs → i ≤ k → k < slice_index_or next i 0 → slice_index_or xs k (pos 0) ≡ pos 0
