use Rattle.std.proofs.Common.{◌-◌, ◌≤◌, true, length}
use Rattle.nomos_equality.specs.Comparing.{HasCompared}
use Rattle.nomos_typed.specs.Telling.{Tells}
use Rattle.nomos_typed.specs.mirror.ComparedWith.{NameFits, amounts_in, program_of}
use Rattle.nomos_typed.proofs.WalkLemmas.{SideBySide}
use Rattle.nomos_typed.proofs.fitting.channels_fit.Given as goal

-- those so far have the types beside them, where the amounts are worth the same
abbrev pub invariant-loop-at : goal.invariant-loop-at
invariant-loop-at l =
    record {
      within : l.at ≤ length l.channels;
      compared : HasCompared (program_of l.told) l.equalities;
      tells : Tells (amounts_in l.told) l.fn.equalities.amounts l.equalities.amounts
          (SideBySide (NameFits l.told) l.channels l.wanted l.at) true;
    }

abbrev pub decreases-loop-at : goal.decreases-loop-at
decreases-loop-at l = length l.channels - l.at
