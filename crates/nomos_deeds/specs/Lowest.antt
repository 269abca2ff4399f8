-- Walks in ascending order: the lowest number over another one of which something holds.
use Rattle.std.specs.Prelude.{◌<◌, ℕ, Option, MatchOption}

-- it holds of this number, which is the lowest such over the other one
pub record LowestOver (P : ℕ → Type 0) (after n : ℕ) : Type 0 where
  pub over : after < n
  pub holds : P n
  pub lowest : (q : ℕ) → after < q → q < n → ¬ P q

-- it holds of no number over this one
abbrev pub NoneOver : (ℕ → Type 0) → ℕ → Type 0
NoneOver P after = (q : ℕ) → after < q → ¬ P q

-- what is answered is the lowest one; nothing, exactly where there is none
abbrev pub FindsNext : (ℕ → Type 0) → ℕ → Option ℕ → Type 0
FindsNext P after answer = MatchOption answer (NoneOver P after) (LowestOver P after)
