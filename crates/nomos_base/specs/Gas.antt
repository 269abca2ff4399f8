-- How amounts of gas are written.
use Rattle.std.specs.Prelude.{ℕ, ◌==◌, List, ◌++◌, codes, decimal, if◌then◌else◌}

-- an amount in Dths: the count, and behind a `/` the unit where a Dth is not a whole unit of gas
abbrev pub gas_text : ℕ → ℕ → List ℕ
gas_text dths unit = if unit == 1 then decimal dths else decimal dths ++ codes "/" ++ decimal unit
