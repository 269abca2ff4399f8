-- A mirror: how the code sees at the front of a text that it is no number with leading zeros.
use Rattle.std.specs.Prelude.{◌≡◌, ◌<◌, ◌≤◌, ℕ, List, length, slice_index}

-- a `0` alone, or one of 1 to 9 in front
pub record IsPlain (text : List ℕ) : Type 0 where
  pub some : 0 < length text
  pub low : 48 ≤ slice_index text 0
  pub high : slice_index text 0 ≤ 57
  pub zero : slice_index text 0 ≡ 48 → length text ≡ 1
