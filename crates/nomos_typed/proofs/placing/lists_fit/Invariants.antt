use Rattle.std.proofs.Common.{◌-◌, ◌≤◌, length}
use Rattle.nomos_typed.specs.mirror.AtPlaces.{IsListHeld}
use Rattle.nomos_typed.proofs.WalkLemmas.{SideBySide}
use Rattle.nomos_typed.proofs.placing.lists_fit.Given as goal

-- those so far are of the kinds and amounts beside them
abbrev pub invariant-loop-at : goal.invariant-loop-at
invariant-loop-at l =
    record {
      within : l.at ≤ length l.lists;
      side : SideBySide IsListHeld l.lists l.held l.at;
    }

abbrev pub decreases-loop-at : goal.decreases-loop-at
decreases-loop-at l = length l.lists - l.at
