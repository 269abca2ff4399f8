-- The values that the lines of a snapshot may have.
use Rattle.std.specs.Prelude.{ℕ, ◌+◌, ◌^◌, ◌≤◌, max, ℤ, pos, neg_ℤ, ◌≤ℤ◌, ◌<ℤ◌}
use Rattle.nomos_ir.specs.Value.{Value, ValueList, int, truth, list, no_values, value}

-- a number of 64 bits with its sign
abbrev pub IsLineNumber : ℤ → Type 0
IsLineNumber z = (neg_ℤ (pos (2 ^ 63)) ≤ℤ z) × (z <ℤ pos (2 ^ 63))

-- how many lists stand in one another
abbrev mutual
  pub nesting : Value → ℕ
  nesting (int z) = 0
  nesting (truth b) = 0
  nesting (list vs) = 1 + nestings vs

  pub nestings : ValueList → ℕ
  nestings no_values = 0
  nestings (value v vs) = max (nesting v) (nestings vs)

-- each number has 64 bits with its sign
abbrev mutual
  pub HasSmallNumbers : Value → Type 0
  HasSmallNumbers (int z) = IsLineNumber z
  HasSmallNumbers (truth b) = Unit {0}
  HasSmallNumbers (list vs) = HaveSmallNumbers vs

  pub HaveSmallNumbers : ValueList → Type 0
  HaveSmallNumbers no_values = Unit {0}
  HaveSmallNumbers (value v vs) = HasSmallNumbers v × HaveSmallNumbers vs

-- a value that a line may have: its numbers fit, and no more than 256 lists stand in one another
pub record IsLineValue (v : Value) : Type 0 where
  pub small : HasSmallNumbers v
  pub nested : nesting v ≤ 256
