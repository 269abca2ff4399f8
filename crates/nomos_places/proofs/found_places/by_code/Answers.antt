use Rattle.std.proofs.Common.{rules}
use Rattle.std.proofs.lemmas.List.Sorted.{IsNonDecreasingBy-from_sort_by_key}
use Rattle.nomos_places.specs.declared.place.Place.{Place}
use Rattle.nomos_places.proofs.found_places.by_code.Goals as goal

pub returns-clause-sorted : goal.returns-clause-sorted
returns-clause-sorted c =
    IsNonDecreasingBy-from_sort_by_key (λ (p : Place). p.code.0) _ c.sort_unstable_by_key.ensures.sorted
    (λ a r q k. search rules)
