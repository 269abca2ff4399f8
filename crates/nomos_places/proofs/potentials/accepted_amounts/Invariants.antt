use Rattle.std.proofs.Common.{◌≡◌, take}
use Rattle.nomos_places.proofs.potentials.accepted_amounts.Given as goal

-- those of the stars so far
abbrev pub invariant-loop-star : goal.invariant-loop-star
invariant-loop-star l = l.amounts.items ≡ take l.star l.accepted.annotations.stars
