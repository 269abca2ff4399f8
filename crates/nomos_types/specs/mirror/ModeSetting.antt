-- A mirror of the code: modes that are set one after another in a table. No promise stands on it.
use Rattle.std.specs.Prelude.{List, [], ◌∷◌, slice_set}
use Rattle.nomos_ir.specs.declared.ids.TypeId.{TypeId}
use Rattle.nomos_ir.specs.declared.mode.Mode.{Mode}

-- the table, in which each of these types gets its mode
abbrev pub with_modes : List (TypeId × Mode) → List Mode → List Mode
with_modes [] modes = modes
with_modes (p ∷ others) modes = with_modes others (slice_set modes p.0.0 p.1)
