use Rattle.std.proofs.Common.{◌≡◌, ◌<◌, ◌≤◌, ◌-◌, ◌^◌, ℕ, length, Some, slice_get}
use Rattle.nomos_equality.specs.declared.difference.TypeVisit.{TypeVisit}
use Rattle.nomos_equality.specs.mirror.Search.{IsMet, Classed, IsCompared}
use Rattle.nomos_equality.proofs.SearchLemmas.{IsWalk}
use Rattle.nomos_equality.proofs.difference.DifferenceSearch.run.Given as goal

-- the visits so far are compared
abbrev pub invariant-loop-next : goal.invariant-loop-next
invariant-loop-next l =
    record {
      inside : l.next ≤ length l.self.visits.items;
      walk : IsWalk l.program l.fn.left l.fn.right l.self;
      met : IsMet l.program (Classed l.self) l.fn.left l.fn.right;
      compared : (i : ℕ) (v : TypeVisit) → i < l.next → slice_get l.self.visits.items i ≡ Some v
          → IsCompared l.program v (Classed l.self);
    }

abbrev pub decreases-loop-next : goal.decreases-loop-next
decreases-loop-next l = 2 ^ 64 - l.next
