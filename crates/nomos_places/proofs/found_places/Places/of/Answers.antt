use Rattle.std.proofs.Common.{◌≡◌, ◌∙◌, ℕ, List, All, Contains, map, subst, sym}
use Rattle.std.proofs.lemmas.List.Elements.{All-contains_itself, All-weaker}
use Rattle.std.specs.List.Sorted.{IsPermutation}
use Rattle.nomos_check.specs.declared.standing.Standing.{Standing}
use Rattle.nomos_places.proofs.FoundLemmas.{found-places}
use Rattle.nomos_places.specs.WantedPlaces.{ArePlacesAt}
use Rattle.nomos_places.specs.declared.place.Place.{Place}
use Rattle.nomos_places.specs.mirror.Making.{HasProgramAmounts, place_in}
use Rattle.nomos_places.proofs.found_places.Places.of.Goals as goal

pub each_place-requires : goal.each_place-requires
each_place-requires c =
    let lists = c.args.accepted.now.program in
    let standings : List Standing = c.in_ok-along.along.standings.items in
    subst (λ (l : List Standing). All (HasProgramAmounts lists) l) (sym c.as_slice-2.ensures.value)
    (All-weaker (Contains standings) (HasProgramAmounts lists)
    (λ s among. (c.in_ok-along.ensures.only s among).amounts) standings (All-contains_itself standings))

pub returns : goal.returns
returns c =
    let a = c.args.accepted.now in
    let standings : List Standing = c.in_ok-along.along.standings.items in
    let leasts : List ℕ = c.in_ok-leasts.leasts.items in
    let found : List Place = c.by_code.result.items in
    let made : c.in_ok-places.places.items ≡ map (place_in a.annotations leasts) standings =
    c.in_ok-places.ensures
    ∙ (λ k. map (place_in a.annotations (c.as_slice-3.ensures.value k)) (c.as_slice-2.ensures.value k)) in
    let same = subst (λ (l : List Place). IsPermutation l found) made c.by_code.ensures.same in
    subst (ArePlacesAt a c.args.wanted.now) (sym c.of_vec.ensures)
    (found-places a c.args.wanted.now c.in_ok-along.along c.in_ok-along.ensures leasts c.in_ok-leasts.ensures found
    same)
