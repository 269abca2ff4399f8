use Rattle.std.proofs.Common.{◌≡◌}
use Rattle.std.specs.Cmp.Lexicographic.{slice_cmp}
use Rattle.std.specs.List.Sorted.{IsStrictlySortedBy}
use Rattle.std.specs.Ordering.{int_cmp}
use Rattle.nomos_forms.specs.RowGroups.{rows_in}
use Rattle.nomos_forms.specs.mirror.Joining.{coefs_of}
use Rattle.nomos_forms.proofs.SortLemmas.{last_of}
use Rattle.nomos_forms.proofs.sorting.joined.Given as goal

-- the rows so far, by distinct coefficients of which the last are those of the last group so far
abbrev pub invariant-loop-group : goal.invariant-loop-group
invariant-loop-group l = record {
  rows : rows_in l.made.items ≡ rows_in l.yielded;
  ascend : IsStrictlySortedBy (slice_cmp int_cmp) (coefs_of l.made.items);
  last : last_of (coefs_of l.made.items) ≡ last_of (coefs_of l.yielded);
}
