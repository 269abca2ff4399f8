use Rattle.std.proofs.Common.{true, take, All}
use Rattle.nomos_equality.specs.Comparing.{HasCompared}
use Rattle.nomos_typed.specs.Messages.{IsMessageTyped}
use Rattle.nomos_typed.specs.Telling.{Tells}
use Rattle.nomos_typed.specs.mirror.ComparedWith.{acceptance_of, program_of, amounts_in}
use Rattle.nomos_typed.proofs.message_types.all_typed.Given as goal

-- the objects so far are typed where the amounts are worth the same
abbrev pub invariant-loop-object : goal.invariant-loop-object
invariant-loop-object l =
    record {
      compared : HasCompared (program_of l.told) l.equalities;
      tells : Tells (amounts_in l.told) l.fn.equalities.amounts l.equalities.amounts
          (All (IsMessageTyped (acceptance_of l.told) l.told.types.now) (take l.object-index l.objects)) true;
    }
