-- A mirror of the code: the place that is made of what is in hand, and where one stands among others.
use Rattle.std.specs.Prelude.{◌≡◌, ◌≢◌, ◌<◌, ℕ, All, List, Contains, Option, Some, None, length, slice_get, slice_index_or}
use Rattle.nomos_check.specs.declared.standing.Carried.{Carried}
use Rattle.nomos_check.specs.declared.standing.Standing.{Standing}
use Rattle.nomos_ir.specs.Bindings.{each_bound}
use Rattle.nomos_ir.specs.declared.ids.CodeId.{CodeId}
use Rattle.nomos_ir.specs.declared.lists.ProgramLists.{ProgramLists}
use Rattle.nomos_types.specs.Acceptance.{IsAmountOf}
use Rattle.nomos_types.specs.Amount.{Annotations, dths}
use Rattle.nomos_places.specs.declared.place.HeldList.{HeldList}
use Rattle.nomos_places.specs.declared.place.Place.{Place}

-- a list with what its amount is worth
abbrev pub held : Annotations → Carried → HeldList
held x c = record { kind = c.kind; amount = dths x c.amount }

abbrev pub place_under : Annotations → Standing → ℕ → Place
place_under x s least = record {
  code = s.code;
  mode = s.mode;
  offers = s.offers;
  kinds = s.kinds;
  lists = each_bound (held x) s.lists;
  shared = s.shared;
  linear = s.linear;
  least = least;
}

-- its lists carry amounts of the program
abbrev pub HasProgramAmounts : ProgramLists → Standing → Type 0
HasProgramAmounts lists s = All (λ e. IsAmountOf lists e.1.amount) s.lists

-- what the instruction needs, 0 where it has none
abbrev pub number_or_none : Option ℕ → ℕ
number_or_none (Some n) = n
number_or_none None = 0

abbrev pub least_in : List ℕ → CodeId → ℕ
least_in leasts code = number_or_none (slice_get leasts code.0)

abbrev pub place_in : Annotations → List ℕ → Standing → Place
place_in x leasts s = place_under x s (least_in leasts s.code)

-- a place of the instruction stands there, or none does
abbrev pub StandsAt : List Place → CodeId → Option ℕ → Type 0
StandsAt places code (Some at) = (at < length places) × ((p : Place) → (slice_index_or places at p).code ≡ code)
StandsAt places code None = (p : Place) → Contains places p → p.code ≢ code
