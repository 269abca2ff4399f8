-- How large the numbers of a table are, and how many.
use Rattle.std.specs.Prelude.{◌≡◌, ◌+◌, ◌<◌, ◌≤◌, ◌^◌, ℕ, ℤ, pos, ◌<ℤ◌, unsigned_abs, length, All}
use Rattle.nomos_forms.specs.declared.row_list.RowList.{RowList}
use Rattle.nomos_simplex.specs.Divisors.{common}
use Rattle.nomos_simplex.specs.declared.table.TableLine.{TableLine}
use Rattle.nomos_simplex.specs.declared.table.Table.{Table}

-- below 2^62, whatever the sign
abbrev pub IsNumber : ℤ → Type 0
IsNumber z = unsigned_abs z < 2 ^ 62

pub record HasNumbers (line : TableLine) : Type 0 where
  pub times : IsNumber line.times
  pub coefs : All IsNumber line.coefs

-- one number of this size for each of n columns, and one over 0 before the basic variable
pub record IsLine (n : ℕ) (line : TableLine) : Type 0 where
  pub width : length line.coefs ≡ n
  pub times : IsNumber line.times
  pub positive : pos 0 <ℤ line.times
  pub coefs : All IsNumber line.coefs

-- no common divisor
abbrev pub IsLowest : TableLine → Type 0
IsLowest line = common (unsigned_abs line.times) line.coefs ≡ 1

-- the number of a variable
abbrev pub IsVariable : RowList → ℕ → Type 0
IsVariable rows v = (1 ≤ v) × (v ≤ rows.stars + length rows.rows)

pub record IsTable (rows : RowList) (table : Table) : Type 0 where
  pub width : length table.nonbasic ≡ rows.stars
  pub nonbasic : All (IsVariable rows) table.nonbasic
  pub basic : All (λ line. IsVariable rows line.basic) table.lines
  pub lines : All (IsLine rows.stars) table.lines
  pub lowest : All IsLowest table.lines
