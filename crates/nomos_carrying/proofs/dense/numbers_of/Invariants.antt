-- The objects that went by.
use Rattle.std.proofs.Common.{◌≡◌, map, take}
use Rattle.nomos_machine.specs.Objects.{object_number}
use Rattle.nomos_carrying.proofs.dense.numbers_of.Given as goal

abbrev pub invariant-loop-object : goal.invariant-loop-object
invariant-loop-object l = l.made.items ≡ map object_number (take l.object-index l.objects)
