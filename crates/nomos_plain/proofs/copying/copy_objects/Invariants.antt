use Rattle.std.proofs.Common.{◌≡◌, All, map, take}
use Rattle.nomos_plain.specs.Parts.{HasRoom, object_in}
use Rattle.nomos_plain.proofs.copying.copy_objects.Given as goal

-- the copies so far are of the first objects, and have room for nothing
abbrev pub invariant-loop-o : goal.invariant-loop-o
invariant-loop-o l =
    (map object_in l.made.items ≡ map object_in (take l.o-index l.objects)) × All (HasRoom 0) l.made.items
