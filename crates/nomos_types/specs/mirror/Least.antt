-- A mirror of the code: the least of the offsets that were found so far. No promise stands on it.
use Rattle.std.specs.Prelude.{◌≤◌, ℕ, Option, Some, None, min}

-- the least of the numbers of which P holds, or that there is none
abbrev pub IsLeast : (ℕ → Type 0) → Option ℕ → Type 0
IsLeast P None = (n : ℕ) → ¬ (P n)
IsLeast P (Some least) = P least × ((n : ℕ) → P n → least ≤ n)

-- the lesser of two numbers, as far as they are there
abbrev pub lesser : Option ℕ → Option ℕ → Option ℕ
lesser None other = other
lesser (Some m) None = Some m
lesser (Some m) (Some n) = Some (min m n)
