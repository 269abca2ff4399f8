-- Names in the order in which they were first seen, and their numbers.
use Rattle.std.specs.Prelude.{ℕ, Bool, not, List, [], ◌∷◌, ◌++◌, if◌then◌else◌}
use Rattle.std.specs.List.{list_any, prefix_len}
use Rattle.std.specs.Str.{bytes_eq}

-- Names are byte strings, in the order in which they were first seen.
abbrev pub Names : Type 0
Names = List (List ℕ)

-- whether the name is among the names
abbrev pub is_among : Names → List ℕ → Bool
is_among names n = list_any (λ m. bytes_eq m n) names

-- the names with one more at the end, if it is not among them
abbrev pub seen : Names → List ℕ → Names
seen names n = if is_among names n then names else names ++ n ∷ []

-- the place of a name among names, and their number where it is not among them
abbrev pub number_of : Names → List ℕ → ℕ
number_of names n = prefix_len (λ m. not (bytes_eq m n)) names
