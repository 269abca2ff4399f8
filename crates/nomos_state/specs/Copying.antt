-- The channels of a process, copied variable by variable.
use Rattle.std.specs.Prelude.{◌≡◌, ◌<◌, ℕ, List, All}
use Rattle.nomos_ir.specs.Bindings.{IsAscending, bound_to}
use Rattle.nomos_ir.specs.declared.ids.VarId.{VarId}
use Rattle.nomos_slots.specs.Cells.{Cell, name_in}

-- These are the channels of a process whose variables are below this one.
pub record AreChannelsBelow (cells : List Cell) (process variable : ℕ) (made : List (VarId × ℕ)) : Type 0 where
  pub ascending : IsAscending made
  pub below : All (λ e. e.0.0 < variable) made
  pub bound : (v : ℕ) → v < variable → bound_to v made ≡ name_in cells process v
