-- Why a program is not well formed, and where.
use Rattle.std.specs.Prelude.{◌≡◌, ◌<◌, ℕ, Some, slice_get}
use Rattle.std.specs.Option.{option_map}
use Rattle.nomos_ir.specs.FirstOffset.{IsFirstAt}
use Rattle.nomos_ir.specs.Nodes.{type_node}
use Rattle.nomos_ir.specs.Unfold.{IsConstructor, IsContractive}
use Rattle.nomos_ir.specs.declared.ids.DefId.{DefId}
use Rattle.nomos_ir.specs.declared.ids.TypeId.{TypeId}
use Rattle.nomos_ir.specs.declared.lists.ProgramLists.{ProgramLists}
use Rattle.nomos_ir.specs.declared.type_node.Def.{Def}
use Rattle.nomos_ir.specs.declared.type_node.TypeNode.{TypeNode}
use Rattle.nomos_ir.specs.declared.type_node.TypeNode.TheVariants as node
use Rattle.nomos_types.specs.Modes.{Offends}
use Rattle.nomos_types.specs.declared.forming.FormError.{FormError}
use Rattle.nomos_types.specs.declared.forming.FormError.TheVariants as error

-- the type node stands at this offset
abbrev pub StandsAtOffset : ProgramLists → TypeId → ℕ → Type 0
StandsAtOffset lists t at = option_map (λ place. place.at) (slice_get lists.types t.0) ≡ Some at

-- the body of a definition begins with a constructor
abbrev pub BeginsWell : ProgramLists → Def → Type 0
BeginsWell lists d = (n : TypeNode) → type_node lists d.body.0 ≡ Some n → IsConstructor n

-- the right side of the first definition that is a bare name stands at this offset
pub record IsFirstBareName (lists : ProgramLists) (at : ℕ) : Type 0 where
  pub place : ℕ
  pub def : Def
  pub named : DefId
  pub there : slice_get lists.defs place ≡ Some def
  pub bare : type_node lists def.body.0 ≡ Some (node.Named named)
  pub offset : StandsAtOffset lists def.body at
  pub first : (k : ℕ) (d : Def) → k < place → slice_get lists.defs k ≡ Some d → BeginsWell lists d

-- a type node that breaks the tables of modes stands at this offset
abbrev pub OffendsAt : ProgramLists → ℕ → Type 0
OffendsAt lists at = (t : TypeId) × Offends lists t × StandsAtOffset lists t at

-- the first of them stands there
abbrev pub IsFirstOffence : ProgramLists → ℕ → Type 0
IsFirstOffence lists at = IsFirstAt (OffendsAt lists) at

-- what the error says is so
abbrev pub IsFormFault : ProgramLists → FormError → Type 0
IsFormFault lists (error.Contractive at) = IsFirstBareName lists at
IsFormFault lists (error.Mode at) = IsContractive lists × IsFirstOffence lists at
IsFormFault lists error.NoMemory = Unit {0}
