use Rattle.std.proofs.Common.{◌-◌, ◌^◌}
use Rattle.nomos_equality.specs.Comparing.{HasCompared, StaysCompared}
use Rattle.nomos_equality.proofs.PassingLemmas.{IsPassing}
use Rattle.nomos_equality.proofs.synchronizing.leads_back.Given as goal

-- the visits so far are passed
abbrev pub invariant-loop-at : goal.invariant-loop-at
invariant-loop-at l =
    record {
      passing : IsPassing l.program l.fn.start l.shared l.fn.equalities l.equalities l.walk.visits.entries l.next;
      compared : HasCompared l.program l.equalities;
      kept : StaysCompared l.fn.equalities l.equalities;
    }

abbrev pub decreases-loop-at : goal.decreases-loop-at
decreases-loop-at l = 2 ^ 64 - l.next
