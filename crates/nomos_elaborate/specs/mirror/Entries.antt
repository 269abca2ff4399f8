-- A mirror of how much the code makes of what counts, so that each number that it gives fits its type. No promise
-- stands on it.
use Rattle.std.specs.Prelude.{ℕ, ◌+◌, ◌*◌, ◌≤◌, length}
use Rattle.nomos_elaborate.specs.Built.{Built}
use Rattle.nomos_elaborate.specs.declared.elaborator.Elaborator.{Elaborator}
use Rattle.nomos_elaborate.specs.declared.spaces.Spaces.{Spaces}
use Rattle.nomos_surface.specs.Counts.{Count, in_type}
use Rattle.nomos_surface.specs.Tree.{TypeTree}

-- how many nodes, names and stars there are
abbrev pub entries : Built → ℕ
entries s = length s.types + length s.terms + length s.code + length s.labels + length s.variables + s.stars

-- how many names are declared
abbrev pub how_many_names : Spaces → ℕ
how_many_names spaces = length spaces.types + length spaces.functions + length spaces.processes

-- both
abbrev pub all_entries : Elaborator → ℕ
all_entries w = how_many_names w.spaces + entries w.built

-- the most that is made of what counts: of each node at most four, and each star
abbrev pub most_of : Count → ℕ
most_of c = 4 * c.nodes + c.stars

-- the most that there may be
abbrev pub entry_limit : ℕ
entry_limit = 65535

-- what counts has room
abbrev pub MayMake : Elaborator → Count → Type 0
MayMake w c = all_entries w + most_of c ≤ entry_limit

-- no more was made than what counts
abbrev pub MakesAtMost : Elaborator → Count → Elaborator → Type 0
MakesAtMost w c v = all_entries v ≤ all_entries w + most_of c

-- of a type one less is made: the name that stands before it may be made too
abbrev pub MayMakeType : Elaborator → TypeTree → Type 0
MayMakeType w t = all_entries w + most_of (in_type t) ≤ entry_limit + 1

abbrev pub MakesType : Elaborator → TypeTree → Elaborator → Type 0
MakesType w t v = all_entries v + 1 ≤ all_entries w + most_of (in_type t)
