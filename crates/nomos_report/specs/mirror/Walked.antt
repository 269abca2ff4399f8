-- A mirror of the code: what is printed up to a number of a list that is in order of numbers.
use Rattle.std.specs.Prelude.{nat_lt, ℕ, List, [], if◌then◌else◌}
use Rattle.std.specs.List.{flat_map}

-- the lines of an element, where its number is at most this one
abbrev pub lines_to : {X : Type 0} → (X → ℕ) → (X → List ℕ) → ℕ → X → List ℕ
lines_to key lines n x = if nat_lt n (key x) then [] else lines x

-- the lines of all elements with such numbers
abbrev pub walked : {X : Type 0} → (X → ℕ) → (X → List ℕ) → ℕ → List X → List ℕ
walked key lines n xs = flat_map (lines_to key lines n) xs
