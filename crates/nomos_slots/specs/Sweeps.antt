-- What becomes of all entries of a process.
use Rattle.std.specs.Prelude.{◌≡◌, ◌==◌, ◌&&◌, ℕ, true, false, cond, List, Option, Some, None, MatchOption}
use Rattle.nomos_slots.specs.Cells.{Cell, cell_at}
use Rattle.nomos_slots.specs.declared.cells.NamedVariable.{NamedVariable}

-- an entry of the process, and none where there is none
abbrev pub IsEntryOf : List Cell → ℕ → Option NamedVariable → Type 0
IsEntryOf cells process result =
    MatchOption
    result
    ((place : ℕ) (e : NamedVariable) → cell_at cells place ≡ Some e → (e.process == process) ≡ false)
    (λ e. (place : ℕ) × (cell_at cells place ≡ Some e) × ((e.process == process) ≡ true))

-- one name instead of another
abbrev pub instead_of : ℕ → ℕ → ℕ → ℕ
instead_of old new name = cond (name == old) new name

-- the cell, in which the new name stands where the process has the old one
abbrev pub renamed_cell : ℕ → ℕ → ℕ → Cell → Cell
renamed_cell process old new None = None
renamed_cell process old new (Some e) =
    Some (cond (e.process == process && e.name == old) (record e { name = new }) e)
