-- The channels that went by.
use Rattle.std.proofs.Common.{◌≡◌, ◌++◌}
use Rattle.std.specs.Vec.Iter.{into_iter_items}
use Rattle.nomos_ir.specs.Bindings.{each_bound}
use Rattle.nomos_carrying.specs.mirror.Dense.{place_in}
use Rattle.nomos_carrying.proofs.dense.DenseNumbers.channels.Given as goal

abbrev pub invariant-loop-entry : goal.invariant-loop-entry
invariant-loop-entry l = record {
  rest : l.yielded ++ into_iter_items l.entry-iterator ≡ l.fn.channels;
  made : l.made.items ≡ each_bound (place_in l.fn.self.names) l.yielded;
}
