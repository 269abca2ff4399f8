-- A mirror of what the code does with a name: it sees it, and gives its number. No promise stands on it.
use Rattle.std.specs.Prelude.{ℕ, List}
use Rattle.nomos_elaborate.specs.Names.{Names, seen, number_of}

-- a name that is seen, with its number
abbrev pub name_seen : Names → List ℕ → Names × ℕ
name_seen names n = (seen names n, number_of (seen names n) n)
