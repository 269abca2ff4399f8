use Rattle.std.proofs.Common.{◌≡◌, All, length, take}
use Rattle.nomos_typed.specs.mirror.AtPlaces.{ObjectMarked}
use Rattle.nomos_typed.proofs.placing.mark_all.Given as goal

-- the instructions of those so far are marked
abbrev pub invariant-loop-object : goal.invariant-loop-object
invariant-loop-object l =
    record {
      width : length l.wanted ≡ length l.initial.wanted;
      marked : All (ObjectMarked l.wanted) (take l.object-index l.objects);
    }
