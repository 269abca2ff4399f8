-- The lines of the objects that are left are left to write.
use Rattle.std.proofs.Common.{drop}
use Rattle.std.specs.List.{flat_map}
use Rattle.nomos_snapshot.specs.Text.{object_lines}
use Rattle.nomos_snapshot.proofs.SavingLemmas.{IsAhead}
use Rattle.nomos_snapshot.proofs.saving.push_objects.Given as goal

abbrev pub invariant-loop-object : goal.invariant-loop-object
invariant-loop-object l =
    IsAhead l.program l.fn.text.items l.text.items (flat_map object_lines l.objects)
    (flat_map object_lines (drop l.object-index l.objects))
