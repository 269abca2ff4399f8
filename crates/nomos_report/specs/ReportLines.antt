-- Lines of a report.
use Rattle.std.specs.Prelude.{ℕ, List, [], ◌∷◌, ◌++◌, codes, decimal}

-- a line ends with a line feed
abbrev pub line : List ℕ → List ℕ
line text = text ++ 10 ∷ []

-- `line N` and what became of it
abbrev pub line_of : ℕ → List ℕ → List ℕ
line_of n text = line (codes "line " ++ decimal n ++ codes " " ++ text)
