-- Laws of a crew for those who send it to work: its stations afterwards, where each keeps its own pass.
use Rattle.std.proofs.Common.{◌≡◌, suc, Option, Some, None, List, [], ◌∷◌, map, IsSomeAnd, IfSome, refl, arith}
use Rattle.std.proofs.lemmas.List.Elements.{All-nil, All-cons}
use Rattle.std.specs.List.{All, cons_option}
use Rattle.nomos_floor.specs.FloorPass.{IsPassOf, KeepsPass, pass_number}
use Rattle.nomos_floor.specs.FloorCrew.{IsStationOf, KeepStations, passes_at, numbers_at}
use Rattle.nomos_floor.specs.declared.floor.Floor.{Floor}
use Rattle.nomos_floor.specs.declared.floor.Pass.{Pass}
use Rattle.nomos_floor.specs.declared.crew.Station.{Station}

module _ {W S E : Type 0} (floor : Floor W S E) where
  one_kept : (before after : Option (Pass W S E)) (passes others : List (Pass W S E))
      → IsSomeAnd before (λ pass. IsSomeAnd after (KeepsPass floor pass))
      → map pass_number others ≡ map pass_number passes
      → IfSome after (IsPassOf floor)
      × (map pass_number (cons_option after others) ≡ map pass_number (cons_option before passes))
  one_kept None after passes others kept same = absurd kept
  one_kept (Some p) None passes others kept same = absurd kept
  one_kept (Some p) (Some q) passes others kept same = (kept.0, λ i. kept.1.number i ∷ same i)

  module _ {A : Type 0} where
    -- where each station keeps its pass, all passes are of the floor still, and have the same numbers
    pub crew-kept : (before after : List (Station W A S E)) → KeepStations floor before after
        → All (IsStationOf floor) after × (numbers_at after ≡ numbers_at before)
    crew-kept [] [] keeps = (All-nil (IsStationOf floor), refl)
    crew-kept [] (a ∷ after) keeps = absurd (omega (arith, keeps.0))
    crew-kept (b ∷ before) [] keeps = absurd (omega (arith, keeps.0))
    crew-kept (b ∷ before) (a ∷ after) keeps =
        let rest = crew-kept before after (omega (arith, keeps.0), λ i d inside. keeps.1 (suc i) d (omega arith)) in
        let here = one_kept b.pass a.pass (passes_at before) (passes_at after) (keeps.1 0 b (omega arith)) rest.1 in
        (All-cons (IsStationOf floor) a after here.0 rest.0, here.1)
