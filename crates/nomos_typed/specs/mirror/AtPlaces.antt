-- A mirror of the code: what is asked of a process at its place.
use Rattle.std.specs.Prelude.{◌≡◌, ◌≤◌, ◌<◌, ◌+◌, ℕ, Bool, true, false, not, List, All, Option, Some, None, length}
use Rattle.nomos_check.specs.InHand.{IsWanted}
use Rattle.nomos_ir.specs.Bindings.{IsAscending, bound_to}
use Rattle.nomos_ir.specs.Paired.{ArePaired, Paired}
use Rattle.nomos_ir.specs.ValueKind.{ValueHasKind}
use Rattle.nomos_ir.specs.declared.ids.CodeId.{CodeId}
use Rattle.nomos_ir.specs.declared.ids.TypeId.{TypeId}
use Rattle.nomos_ir.specs.declared.ids.VarId.{VarId}
use Rattle.nomos_ir.specs.declared.lists.ProgramLists.{ProgramLists}
use Rattle.nomos_machine.specs.Matching.{IsListOf}
use Rattle.nomos_machine.specs.Objects.{free_purse, potential_of}
use Rattle.nomos_machine.specs.declared.object.Object.{Object}
use Rattle.nomos_machine.specs.declared.object.Object.TheVariants as object
use Rattle.nomos_machine.specs.declared.object.PotentialList.{PotentialList}
use Rattle.nomos_machine.specs.declared.object.Process.{Process}
use Rattle.nomos_places.specs.WantedPlaces.{ArePlacesAt, list_type}
use Rattle.nomos_places.specs.declared.place.HeldList.{HeldList}
use Rattle.nomos_places.specs.declared.place.Place.{Place}
use Rattle.nomos_types.specs.Acceptance.{Acceptance}
use Rattle.nomos_types.specs.Judgement.{count_one}
use Rattle.std.specs.Option.{option_or}
use Rattle.nomos_typed.specs.declared.told.Told.{Told}
use Rattle.nomos_typed.specs.mirror.ComparedWith.{NameFits}

-- ---- which places are wanted

-- the number is marked, and those that were are
pub record IsMarkedAt (at : ℕ) (old new : List Bool) : Type 0 where
  pub width : length new ≡ length old
  pub marked : at < length old → IsWanted new at
  pub kept : (other : ℕ) → IsWanted old other → IsWanted new other

-- where it is a process, its instruction is marked
abbrev pub ObjectMarked : List Bool → Object → Type 0
ObjectMarked wanted (object.Process p) = p.code.0 < length wanted → IsWanted wanted p.code.0
ObjectMarked wanted (object.Message m) = Unit {0}

-- the instruction of the object is marked, and all stay that were
pub record MarksObject (o : Object) (old new : List Bool) : Type 0 where
  pub width : length new ≡ length old
  pub marked : ObjectMarked new o
  pub kept : (other : Object) → ObjectMarked old other → ObjectMarked new other

-- what stands at the instruction is known, if it is one of the program's
pub record PlaceIsKnown (a : Acceptance) (places : List Place) (code : CodeId) : Type 0 where
  pub wanted : List Bool
  pub are : ArePlacesAt a wanted places
  pub marked : code.0 < length a.program.code → IsWanted wanted code.0

abbrev pub ObjectIsKnown : Acceptance → List Place → Object → Type 0
ObjectIsKnown a places (object.Process p) = PlaceIsKnown a places p.code
ObjectIsKnown a places (object.Message m) = Unit {0}

-- ---- what a process has

-- the list is of the kind and the amount
abbrev pub IsListHeld : PotentialList → HeldList → Type 0
IsListHeld l held = IsListOf l (list_type held)

-- all but its channels and what it offers
pub record HasPlainly (p : Process) (place : Place) : Type 0 where
  pub mode : p.mode ≡ place.mode
  pub values : ArePaired ValueHasKind p.values place.kinds
  pub held : ArePaired IsListHeld p.lists place.lists
  pub covered : potential_of p ≤ p.purse
  pub enough : place.least ≤ free_purse p

-- whether the variable of a channel is bound among references, or is not, where that is asked
abbrev pub is_some : {X : Type 0} → Option X → Bool
is_some (Some x) = true
is_some None = false

abbrev pub is_reference : List (VarId × TypeId) → Bool → VarId × ℕ → Bool
is_reference shared true e = is_some (bound_to e.0.0 shared)
is_reference shared false e = not (is_some (bound_to e.0.0 shared))

-- references are in order, and so are the other channels; no variable is both; all types are the program's
pub record AreTypesIn (lists : ProgramLists) (place : Place) : Type 0 where
  pub shared : IsAscending place.shared
  pub linear : IsAscending place.linear
  pub apart : (v : ℕ) → count_one (bound_to v place.shared) + count_one (bound_to v place.linear) ≤ 1
  pub shared_in : All (λ e. e.1.0 < length lists.types) place.shared
  pub linear_in : All (λ e. e.1.0 < length lists.types) place.linear

-- for each variable a channel of a type that is alike to that of the place, and nothing besides
abbrev pub HasChannels : Told → List (VarId × ℕ) → Place → Type 0
HasChannels told channels place =
    (v : ℕ) → Paired (NameFits told) (bound_to v channels)
    (option_or (bound_to v place.shared) (bound_to v place.linear))
