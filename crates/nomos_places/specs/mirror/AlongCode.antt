-- A mirror of the code: what is found along the code of declarations.
use Rattle.std.specs.Prelude.{◌≡◌, ◌<◌, ℕ, Bool, List, Contains, Some, length, slice_get}
use Rattle.nomos_check.specs.InHand.{IsWanted}
use Rattle.nomos_check.specs.declared.standing.Standing.{Standing}
use Rattle.nomos_ir.specs.declared.declaration.ProcDecl.{ProcDecl}
use Rattle.nomos_types.specs.Acceptance.{Acceptance}
use Rattle.nomos_types.specs.Derivation.{Follows}
use Rattle.nomos_types.specs.Judgement.{Judgement, start_of}
use Rattle.nomos_places.specs.WantedPlaces.{Describes, StandsIn}
use Rattle.nomos_places.specs.declared.along.Along.{Along}
use Rattle.nomos_places.specs.mirror.Making.{HasProgramAmounts, place_under}
use Rattle.nomos_places.specs.mirror.Needing.{ArePotentialsAt}

-- the place that is made of what is in hand has all that the judgement has, whatever is needed
abbrev pub HasInHandHere : Acceptance → Standing → Judgement → Type 0
HasInHandHere a s j = (least : ℕ) → Describes j (place_under a.annotations s least)

-- what is in hand where the judgement stands is among these
pub record IsInHand (a : Acceptance) (found : List Standing) (j : Judgement) : Type 0 where
  pub standing : Standing
  pub among : Contains found standing
  pub has : HasInHandHere a standing j

-- this is in hand where some judgement stands
pub record IsWhereOneStands (a : Acceptance) (s : Standing) : Type 0 where
  pub judgement : Judgement
  pub stands : StandsIn a judgement
  pub has : HasInHandHere a s judgement
  pub amounts : HasProgramAmounts a.program s

-- the judgement follows from the start of one of the first declarations
pub record FollowsBelow (a : Acceptance) (below : ℕ) (j : Judgement) : Type 0 where
  pub number : ℕ
  pub early : number < below
  pub declaration : ProcDecl
  pub declared : slice_get a.program.procs number ≡ Some declaration
  pub follows : Follows a.program a.annotations (start_of a.program a.annotations declaration) j

-- what is found along the first declarations
pub record IsAlongBelow (a : Acceptance) (wanted : List Bool) (below : ℕ) (standings : List Standing)
    (potentials : List ℕ) : Type 0 where
  pub width : length potentials ≡ length wanted
  pub potentials_are : (j : Judgement) → FollowsBelow a below j → slice_get potentials j.code.0 ≡ Some j.q
  pub each : (j : Judgement) → FollowsBelow a below j → IsWanted wanted j.code.0 → IsInHand a standings j
  pub only : (s : Standing) → Contains standings s → IsWhereOneStands a s

-- along all declarations
pub record IsAlong (a : Acceptance) (wanted : List Bool) (along : Along) : Type 0 where
  pub width : length along.potentials.items ≡ length wanted
  pub potentials_are : ArePotentialsAt a along.potentials.items
  pub each : (j : Judgement) → StandsIn a j → IsWanted wanted j.code.0 → IsInHand a along.standings.items j
  pub only : (s : Standing) → Contains along.standings.items s → IsWhereOneStands a s
