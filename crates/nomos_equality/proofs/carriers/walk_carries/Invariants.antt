use Rattle.std.proofs.Common.{◌-◌, ◌^◌}
use Rattle.nomos_equality.proofs.SilentLemmas.{IsSilentSoFar}
use Rattle.nomos_equality.proofs.carriers.walk_carries.Given as goal

-- no channel is sent at the visits so far
abbrev pub invariant-loop-at : goal.invariant-loop-at
invariant-loop-at l = IsSilentSoFar l.program l.fn.start l.walk.visits.entries l.next

abbrev pub decreases-loop-at : goal.decreases-loop-at
decreases-loop-at l = 2 ^ 64 - l.next
