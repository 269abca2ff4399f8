-- A table of modes: one for each type node.
use Rattle.std.specs.Prelude.{◌≡◌, List, length, Some, slice_get}
use Rattle.nomos_ir.specs.declared.ids.TypeId.{TypeId}
use Rattle.nomos_ir.specs.declared.lists.ProgramLists.{ProgramLists}
use Rattle.nomos_ir.specs.declared.mode.Mode.{Mode}
use Rattle.nomos_types.specs.Modes.{HasMode}

-- the modes are those of the type nodes, in order of number
pub record AreModesOf (lists : ProgramLists) (modes : List Mode) : Type 0 where
  pub each : length modes ≡ length lists.types
  pub own : (t : TypeId) (m : Mode) → HasMode lists t m → slice_get modes t.0 ≡ Some m
