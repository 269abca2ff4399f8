use Rattle.std.proofs.Common.{◌<◌, All, take}
use Rattle.nomos_machine.specs.Objects.{object_number}
use Rattle.nomos_typed.proofs.founded.are_numbered.Given as goal

-- those so far are
abbrev pub invariant-loop-object : goal.invariant-loop-object
invariant-loop-object l = All (λ o. 0 < object_number o) (take l.object-index l.objects)
