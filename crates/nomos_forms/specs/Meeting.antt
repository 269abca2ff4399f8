-- Amounts that meet rows.
use Rattle.std.specs.Prelude.{ℕ, List, pos, All, ◌*ℤ◌, ◌≤ℤ◌}
use Rattle.nomos_forms.specs.Linear.{dot}
use Rattle.nomos_forms.specs.declared.row.Row.{Row}

-- amounts, in parts of which a unit of gas has `unit`, meet a row: coefs * amounts >= unit * least
abbrev pub MeetsRow : List ℕ → ℕ → Row → Type 0
MeetsRow amounts unit row = (pos unit *ℤ row.least) ≤ℤ dot row.coefs amounts

-- they meet each row
abbrev pub MeetsRows : List ℕ → ℕ → List Row → Type 0
MeetsRows amounts unit rows = All (MeetsRow amounts unit) rows
