-- What the channels of all processes are seen as.
use Rattle.std.specs.Prelude.{◌≡◌, ◌≤◌, ◌<◌, ◌-◌, ◌^◌, ℕ, List, Option, Some, None, max, length, IfSome}
use Rattle.nomos_slots.specs.Cells.{Cell, IsProbed, entries, name_in}
use Rattle.nomos_slots.specs.Marking.{Marking}
use Rattle.nomos_slots.specs.declared.channels.Channels.TheInside.{Inside}

-- the cells, with room for as many names as there are cells besides the homes, less those that are there or marked
abbrev pub table_of : Inside → Marking Cell
table_of s = record s.cells { room = length s.cells.now - s.homes - max s.count s.counted }

-- What is marked is in order too, in as many cells; it is counted.
pub record IsMarkedTable (s : Inside) (marked : List Cell) : Type 0 where
  pub probed : IsProbed s.homes marked
  pub counted : s.counted ≡ entries marked
  pub len : length marked ≡ length s.cells.now

-- The entries are in order and counted, and the log has a seat for each cell.
pub record IsTable (s : Inside) : Type 0 where
  pub homes : 0 < s.homes
  pub probed : IsProbed s.homes s.cells.now
  pub count : s.count ≡ entries s.cells.now
  pub seats : length s.cells.now ≤ s.cells.seats
  pub fits : length s.cells.now < 2 ^ 64
  pub marked : IfSome s.cells.marked (IsMarkedTable s)

-- both have the same names, or neither is there
abbrev pub HaveSameNames : Option (List Cell) → Option (List Cell) → Type 0
HaveSameNames (Some before) (Some after) = (process variable : ℕ)
    → name_in after process variable ≡ name_in before process variable
HaveSameNames None None = Unit {0}
HaveSameNames _ _ = ⊥

-- how many entries are marked
abbrev pub marked_entries : Option (List Cell) → ℕ
marked_entries (Some marked) = entries marked
marked_entries None = 0
