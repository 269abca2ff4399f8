use Rattle.std.proofs.Common.{◌-◌, ◌≤◌, length}
use Rattle.nomos_ir.specs.ValueKind.{ValueHasKind}
use Rattle.nomos_typed.proofs.WalkLemmas.{SideBySide}
use Rattle.nomos_typed.proofs.fitting.values_fit.Given as goal

-- those so far are of the kinds beside them
abbrev pub invariant-loop-at : goal.invariant-loop-at
invariant-loop-at l =
    record {
      within : l.at ≤ length l.values;
      side : SideBySide ValueHasKind l.values l.kinds l.at;
    }

abbrev pub decreases-loop-at : goal.decreases-loop-at
decreases-loop-at l = length l.values - l.at
