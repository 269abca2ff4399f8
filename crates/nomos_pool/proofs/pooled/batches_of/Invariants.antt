use Rattle.std.proofs.Common.{◌≡◌, ◌++◌, map}
use Rattle.std.specs.Vec.Iter.{into_iter_items}
use Rattle.nomos_script.specs.declared.item.ScriptItem.TheVariants as item
use Rattle.nomos_pool.proofs.pooled.batches_of.Given as goal

-- the batches of the lines that went by
abbrev pub invariant-loop-item : goal.invariant-loop-item
invariant-loop-item l = record {
  rest : l.yielded ++ into_iter_items l.item-iterator ≡ l.fn.items.items;
  batches : map item.Batch l.batches.items ≡ l.yielded;
}
