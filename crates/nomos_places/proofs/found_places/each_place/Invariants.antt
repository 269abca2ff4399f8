use Rattle.std.proofs.Common.{◌≡◌, map, take}
use Rattle.nomos_places.specs.mirror.Making.{place_in}
use Rattle.nomos_places.proofs.found_places.each_place.Given as goal

-- those so far are made
abbrev pub invariant-loop-standing : goal.invariant-loop-standing
invariant-loop-standing l =
    l.made.items ≡ map (place_in l.accepted.annotations l.leasts) (take l.standing-index l.standings)
