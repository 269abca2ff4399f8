-- What typing says at instructions of an accepted program.
use Rattle.std.specs.Prelude.{◌≡◌, ◌≢◌, Bool, List, Contains, Option, Some, None}
use Rattle.nomos_check.specs.InHand.{IsWanted}
use Rattle.nomos_ir.specs.Bindings.{each_bound}
use Rattle.nomos_ir.specs.declared.ids.CodeId.{CodeId}
use Rattle.nomos_types.specs.Acceptance.{Acceptance}
use Rattle.nomos_types.specs.Judgement.{Judgement, ListType}
use Rattle.nomos_types.specs.Places.{IsPlace}
use Rattle.nomos_places.specs.LeastPotential.{NeedsAtLeast}
use Rattle.nomos_places.specs.declared.place.HeldList.{HeldList}
use Rattle.nomos_places.specs.declared.place.Place.{Place}

abbrev pub list_type : HeldList → ListType
list_type l = record { kind = l.kind; amount = l.amount }

-- The place has all that the judgement has, but for its potential.
pub record Describes (j : Judgement) (p : Place) : Type 0 where
  pub code : j.code ≡ p.code
  pub mode : j.mode ≡ p.mode
  pub offers : j.offers ≡ p.offers
  pub kinds : j.kinds ≡ p.kinds
  pub lists : j.lists ≡ each_bound list_type p.lists
  pub shared : j.shared ≡ p.shared
  pub linear : j.linear ≡ p.linear

-- the judgement stands in the program, under the amounts that were accepted
abbrev pub StandsIn : Acceptance → Judgement → Type 0
StandsIn a j = IsPlace a.program a.annotations j

-- The place is one of the program's: it has all that the judgement has that stands there, and the least potential with
-- which that has a derivation.
pub record IsPlaceAt (a : Acceptance) (p : Place) : Type 0 where
  pub judgement : Judgement
  pub stands : StandsIn a judgement
  pub describes : Describes judgement p
  pub least : NeedsAtLeast a.program a.annotations judgement p.least

-- one of the places has all that the judgement has
pub record IsDescribed (found : List Place) (j : Judgement) : Type 0 where
  pub place : Place
  pub among : Contains found place
  pub describes : Describes j place

-- These are the places of the program at the instructions that are wanted: each judgement that stands at such an
-- instruction is described, and nothing else.
pub record ArePlacesAt (a : Acceptance) (wanted : List Bool) (found : List Place) : Type 0 where
  pub each : (j : Judgement) → StandsIn a j → IsWanted wanted j.code.0 → IsDescribed found j
  pub only : (p : Place) → Contains found p → IsPlaceAt a p

-- What is answered at an instruction is what typing says there: its place; or nothing, and then no judgement stands
-- there, if it was wanted.
abbrev pub SaysTyping : Acceptance → List Bool → CodeId → Option Place → Type 0
SaysTyping a wanted code (Some p) = (p.code ≡ code) × IsPlaceAt a p
SaysTyping a wanted code None = IsWanted wanted code.0 → (j : Judgement) → StandsIn a j → j.code ≢ code
