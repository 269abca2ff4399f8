-- The objects that went by.
use Rattle.std.proofs.Common.{◌≡◌, ◌++◌, map}
use Rattle.std.specs.Vec.Iter.{into_iter_items}
use Rattle.nomos_snapshot.specs.ToldLines.{object_told}
use Rattle.nomos_snapshot.proofs.ledger_parts.objects_from.Given as goal

abbrev pub invariant-loop-object : goal.invariant-loop-object
invariant-loop-object l = record {
  rest : l.yielded ++ into_iter_items l.object-iterator ≡ l.fn.objects.items;
  made : l.made.items ≡ map object_told l.yielded;
}
