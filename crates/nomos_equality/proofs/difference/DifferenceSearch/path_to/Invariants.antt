use Rattle.nomos_equality.proofs.TrailLemmas.{IsTrailFrom, trail_measure}
use Rattle.nomos_equality.proofs.difference.DifferenceSearch.path_to.Given as goal

-- the hops so far lead from where the search stands to the visit
abbrev pub invariant-loop-at : goal.invariant-loop-at
invariant-loop-at l = IsTrailFrom l.self.visits.items l.number l.at l.path.items

abbrev pub decreases-loop-at : goal.decreases-loop-at
decreases-loop-at l = trail_measure l.at
