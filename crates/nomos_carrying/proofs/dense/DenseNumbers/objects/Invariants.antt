-- The objects that went by.
use Rattle.std.proofs.Common.{◌≡◌, ◌++◌, map}
use Rattle.std.specs.Vec.Iter.{into_iter_items}
use Rattle.nomos_carrying.specs.Renumbered.{object_by}
use Rattle.nomos_carrying.specs.mirror.Dense.{place_in}
use Rattle.nomos_carrying.proofs.dense.DenseNumbers.objects.Given as goal

abbrev pub invariant-loop-object : goal.invariant-loop-object
invariant-loop-object l = record {
  rest : l.yielded ++ into_iter_items l.object-iterator ≡ l.fn.objects;
  made : l.made.items ≡ map (object_by (place_in l.fn.self.objects) (place_in l.fn.self.names)) l.yielded;
}
