-- The names that went by.
use Rattle.std.proofs.Common.{◌≡◌, ◌++◌, map}
use Rattle.std.specs.Vec.Iter.{into_iter_items}
use Rattle.nomos_carrying.specs.mirror.Dense.{place_in}
use Rattle.nomos_carrying.proofs.dense.DenseNumbers.types.Given as goal

abbrev pub invariant-loop-named : goal.invariant-loop-named
invariant-loop-named l = record {
  rest : l.yielded ++ into_iter_items l.named-iterator ≡ l.fn.types;
  made : l.made.items ≡ map (λ t. (place_in l.fn.self.names t.0, t.1)) l.yielded;
}
