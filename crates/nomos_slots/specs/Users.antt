-- Processes that have a name.
use Rattle.std.specs.Prelude.{◌≡◌, ◌<◌, ◌==◌, ℕ, cond, List, Option, Some, None, MatchOption, min}
use Rattle.nomos_slots.specs.Cells.{Cell, name_in}

-- a process has the name for one of its variables
abbrev pub HasName : List Cell → ℕ → ℕ → Type 0
HasName cells name process = (variable : ℕ) × (name_in cells process variable ≡ Some name)

-- the lowest process that has it, and none where none has
abbrev pub IsLowestUser : List Cell → ℕ → Option ℕ → Type 0
IsLowestUser cells name result =
    MatchOption
    result
    ((process : ℕ) → ¬ HasName cells name process)
    (λ lowest. HasName cells name lowest × ((process : ℕ) → process < lowest → ¬ HasName cells name process))

-- the lower one of a process and that of a cell, where the entry there has the name
abbrev pub lower_user : ℕ → Cell → Option ℕ → Option ℕ
lower_user name None lowest = lowest
lower_user name (Some e) None = cond (e.name == name) (Some e.process) None
lower_user name (Some e) (Some process) = cond (e.name == name) (Some (min process e.process)) (Some process)
