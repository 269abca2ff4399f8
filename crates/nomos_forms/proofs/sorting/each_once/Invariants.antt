use Rattle.std.specs.List.Sorted.{IsStrictlySortedBy}
use Rattle.nomos_forms.specs.RowGroups.{rows_in}
use Rattle.nomos_forms.specs.RowOrder.{row_cmp}
use Rattle.nomos_forms.specs.mirror.SameRows.{HasSame}
use Rattle.nomos_forms.proofs.sorting.each_once.Given as goal

-- the rows so far, each once
abbrev pub invariant-loop-group : goal.invariant-loop-group
invariant-loop-group l = record {
  ascend : IsStrictlySortedBy row_cmp (rows_in l.made.items);
  same : HasSame (rows_in l.made.items) (rows_in l.yielded);
}
