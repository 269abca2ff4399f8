-- The lists that went by.
use Rattle.std.proofs.Common.{◌≡◌, ◌++◌, map}
use Rattle.std.specs.Vec.Iter.{into_iter_items}
use Rattle.nomos_snapshot.specs.ToldLines.{list_told}
use Rattle.nomos_snapshot.proofs.ledger_parts.lists_from.Given as goal

abbrev pub invariant-loop-entry : goal.invariant-loop-entry
invariant-loop-entry l = record {
  rest : l.yielded ++ into_iter_items l.entry-iterator ≡ l.fn.lists.items;
  made : l.made.items ≡ map (λ e. (e.0, list_told e.1)) l.yielded;
}
