use Rattle.nomos_equality.proofs.WalkLemmas.{IsWayFrom, way_measure}
use Rattle.nomos_equality.proofs.continuation_walk.ContinuationWalk.path_to.Given as goal

-- the hops so far lead from where the reading stands to the visit
abbrev pub invariant-loop-from : goal.invariant-loop-from
invariant-loop-from l = IsWayFrom l.self.visits.entries l.number l.from l.path.items

abbrev pub decreases-loop-from : goal.decreases-loop-from
decreases-loop-from l = way_measure l.from
