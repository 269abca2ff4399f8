use Rattle.std.proofs.Common.{◌≡◌, take}
use Rattle.nomos_typed.specs.mirror.Ties.{all_tied}
use Rattle.nomos_typed.proofs.named_by.all_tied.Given as goal

-- the names of the objects so far
abbrev pub invariant-loop-object : goal.invariant-loop-object
invariant-loop-object l = l.names.items ≡ all_tied l.tie (take l.object-index l.objects)
