-- What clauses say of a crew: the passes at its stations, and what the opening pass knows before and after.
use Rattle.std.specs.Prelude.{◌≡◌, ℕ, ◌+◌, ◌<◌, None, IsSomeAnd, IfSome, List, [], ◌++◌, map, filter_map, fold, length, slice_index_or, All}
use Rattle.std.specs.List.{range_with_len}
use mathlib.Core.List.{IsPrefix}
use Rattle.nomos_floor.specs.OwnEntries.{longer, without_number}
use Rattle.nomos_floor.specs.FloorPass.{IsPassOf, KeepsPass, pass_number, seen_by, own_of, next_of, out_of, ended_of}
use Rattle.nomos_floor.specs.declared.floor.Floor.{Floor}
use Rattle.nomos_floor.specs.declared.floor.Pass.{Pass}
use Rattle.nomos_floor.specs.declared.crew.Station.{Station}

-- the numbers that are left, once each of those gone is taken out in turn
abbrev pub without_numbers : List ℕ → List ℕ → List ℕ
without_numbers gone numbers = fold (λ left number. without_number number left) numbers gone

module _ {W S E : Type 0} where
  -- the longest of a history and those that passes have seen
  abbrev pub longest : List (ℕ × E) → List (Pass W S E) → List (ℕ × E)
  longest seen passes = fold (λ history pass. longer history (seen_by pass)) seen passes

  -- so many passes were split off the opening one: their numbers are the next ones, and are out
  pub record HasSplitOff (count : ℕ) (before after : Pass W S E) : Type 0 where
    pub number : pass_number after ≡ pass_number before
    pub seen : seen_by after ≡ seen_by before
    pub own : own_of after ≡ own_of before
    pub next : next_of after ≡ next_of before + count
    pub out : out_of after ≡ out_of before ++ range_with_len (next_of before) count
    pub ended : ended_of after ≡ ended_of before

  -- The opening pass took in these passes, one after another: their numbers are out no more, their entries are kept,
  -- and the longest history is seen, which begins with each of the others
  pub record HasTakenIn (passes : List (Pass W S E)) (before after : Pass W S E) : Type 0 where
    pub number : pass_number after ≡ pass_number before
    pub own : own_of after ≡ own_of before
    pub next : next_of after ≡ next_of before
    pub seen : seen_by after ≡ longest (seen_by before) passes
    pub begins : IsPrefix (seen_by before) (seen_by after)
    pub begins_each : All (λ pass. IsPrefix (seen_by pass) (seen_by after)) passes
    pub out : out_of after ≡ without_numbers (map pass_number passes) (out_of before)
    pub ended : ended_of after ≡ ended_of before ++ map (λ pass. (pass_number pass, own_of pass)) passes

  module _ {A : Type 0} where
    -- the passes at the stations, in their order
    abbrev pub passes_at : List (Station W A S E) → List (Pass W S E)
    passes_at stations = filter_map (λ station. station.pass) stations

    -- their numbers
    abbrev pub numbers_at : List (Station W A S E) → List ℕ
    numbers_at stations = map pass_number (passes_at stations)

    -- a pass of this floor is there
    abbrev pub IsManned : Floor W S E → Station W A S E → Type 0
    IsManned floor station = IsSomeAnd station.pass (IsPassOf floor)

    -- what pass is there is one of this floor
    abbrev pub IsStationOf : Floor W S E → Station W A S E → Type 0
    IsStationOf floor station = IfSome station.pass (IsPassOf floor)

    -- its pass has seen just this history, and has no entry, and nothing is answered
    abbrev pub IsNewStation : List (ℕ × E) → Station W A S E → Type 0
    IsNewStation seen station =
        IsSomeAnd station.pass (λ pass. (seen_by pass ≡ seen) × (own_of pass ≡ [])) × (station.answer ≡ None)

    -- its pass is there again, and is kept
    abbrev pub KeepsStation : Floor W S E → Station W A S E → Station W A S E → Type 0
    KeepsStation floor before after = IsSomeAnd before.pass (λ pass. IsSomeAnd after.pass (KeepsPass floor pass))

    -- the same of each of the stations
    abbrev pub KeepStations : Floor W S E → List (Station W A S E) → List (Station W A S E) → Type 0
    KeepStations floor before after =
        (length after ≡ length before)
        × ((k : ℕ) (d : Station W A S E) → k < length before
        → KeepsStation floor (slice_index_or before k d) (slice_index_or after k d))
