-- The first by its offset of all that stands in a text in some way.
use Rattle.std.specs.Prelude.{◌≤◌, ℕ}

-- nothing of the kind stands before this offset
abbrev pub NoneBefore : (ℕ → Type 0) → ℕ → Type 0
NoneBefore Stands at = (other : ℕ) → Stands other → at ≤ other

-- something of the kind stands at this offset, and nothing of it before
pub record IsFirstAt (Stands : ℕ → Type 0) (at : ℕ) : Type 0 where
  pub there : Stands at
  pub first : NoneBefore Stands at
