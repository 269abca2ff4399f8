use Rattle.std.proofs.Common.{◌-◌, ◌^◌}
use Rattle.nomos_equality.proofs.ReachLemmas.{IsFreeSoFar}
use Rattle.nomos_equality.proofs.reach.pays_nowhere.Given as goal

-- no amount is paid at the visits so far
abbrev pub invariant-loop-at : goal.invariant-loop-at
invariant-loop-at l = IsFreeSoFar l.program l.fn.start l.walk.visits.keys l.next

abbrev pub decreases-loop-at : goal.decreases-loop-at
decreases-loop-at l = 2 ^ 64 - l.next
