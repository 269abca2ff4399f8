-- A mirror of the code: with what objects are compared, and what is asked of them.
use Rattle.std.specs.Prelude.{◌≡◌, ◌<◌, ◌≤◌, ℕ, map, length, Option, Some, None, slice_index_or}
use Rattle.std.specs.declared.result.Result.{Result}
use Rattle.std.specs.declared.result.Result.TheVariants.{Ok, Err}
use Rattle.std.specs.Ordering.{nat_cmp}
use Rattle.std.specs.List.Sorted.{IsStrictlySortedBy}
use Rattle.nomos_ir.specs.declared.ids.TypeId.{TypeId}
use Rattle.nomos_ir.specs.declared.lists.ProgramLists.{ProgramLists}
use Rattle.nomos_ir.specs.declared.type_node.TypeNode.{TypeNode}
use Rattle.nomos_ir.specs.Nodes.{type_node}
use Rattle.nomos_types.specs.Acceptance.{Acceptance}
use Rattle.nomos_types.specs.Alike.{AlikeTypes}
use Rattle.nomos_types.specs.Amount.{Annotations}
use Rattle.nomos_types.specs.ModeTable.{AreModesOf}
use Rattle.nomos_machine.specs.Matching.{NameHasType}
use Rattle.nomos_machine.specs.State.{NameTypes, type_of}
use Rattle.nomos_machine.specs.TypedMessage.{GoesOnAt}
use Rattle.nomos_typed.specs.declared.told.Told.{Told}

abbrev pub acceptance_of : Told → Acceptance
acceptance_of told = told.accepted.now

abbrev pub program_of : Told → ProgramLists
program_of told = told.accepted.now.program

abbrev pub amounts_in : Told → Annotations
amounts_in told = told.accepted.now.annotations

-- names stand in order of number, each once
abbrev pub AreInOrder : NameTypes → Type 0
AreInOrder types = IsStrictlySortedBy nat_cmp (map (λ t. t.0) types)

-- the modes are those of the program's types, and the names are in order
pub record IsTold (told : Told) : Type 0 where
  pub modes : AreModesOf (program_of told) told.modes.now
  pub types : AreInOrder told.types.now

-- it is one of the program's types
abbrev pub IsTypeIn : Told → TypeId → Type 0
IsTypeIn told t = t.0 < length (program_of told).types

-- a name stands at the place, or nowhere
abbrev pub IsPlaceOf : NameTypes → ℕ → Result ℕ ℕ → Type 0
IsPlaceOf types name (Ok place) =
    (place < length types) × ((e : ℕ × TypeId) → type_of types name ≡ Some (slice_index_or types place e).1)
IsPlaceOf types name (Err place) = type_of types name ≡ None

-- the type of a name, where it is one of the program's
abbrev pub FindsType : Told → ℕ → Option TypeId → Type 0
FindsType told name (Some t) = (type_of told.types.now name ≡ Some t) × IsTypeIn told t
FindsType told name None = (t : TypeId) → type_of told.types.now name ≡ Some t → length (program_of told).types ≤ t.0

abbrev pub AreAlikeIn : Told → TypeId → TypeId → Type 0
AreAlikeIn told own t = AlikeTypes (program_of told) (amounts_in told) own t

abbrev pub NameFits : Told → ℕ → TypeId → Type 0
NameFits told name t = NameHasType (program_of told) (amounts_in told) told.types.now name t

abbrev pub GoesOn : Told → Option ℕ → Option TypeId → Type 0
GoesOn told next goes = GoesOnAt (program_of told) (amounts_in told) told.types.now next goes

-- the node stands in the program
abbrev pub IsHeadIn : Told → TypeNode → Type 0
IsHeadIn told head = (t : ℕ) × (type_node (program_of told) t ≡ Some head)
