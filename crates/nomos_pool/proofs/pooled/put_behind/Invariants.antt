use Rattle.std.proofs.Common.{◌≡◌, ◌++◌, map}
use Rattle.std.specs.Vec.Iter.{into_iter_items}
use Rattle.nomos_script.specs.declared.item.ScriptItem.TheVariants as item
use Rattle.nomos_pool.proofs.pooled.put_behind.Given as goal

-- the batches that went by stand behind the items
abbrev pub invariant-loop-submission : goal.invariant-loop-submission
invariant-loop-submission l = record {
  rest : l.yielded ++ into_iter_items l.submission-iterator ≡ l.fn.gathered.items;
  items : l.items.items ≡ l.fn.items.items ++ map (λ s. item.Batch s.item) l.yielded;
}
