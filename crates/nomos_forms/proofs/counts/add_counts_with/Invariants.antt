use Rattle.std.proofs.Common.{◌≡◌, ◌++◌, [], map}
use Rattle.std.specs.List.{range_with_len}
use Rattle.nomos_forms.specs.RowGroups.{rows_in}
use Rattle.nomos_forms.specs.mirror.StarCounts.{counts}
use Rattle.nomos_forms.specs.mirror.Joining.{coefs_of}
use Rattle.nomos_forms.proofs.counts.add_counts_with.Given as goal

-- the second stars so far
abbrev pub invariant-loop-less : goal.invariant-loop-less
invariant-loop-less l = record {
  coefs : coefs_of l.groups.items ≡ coefs_of l.fn.groups.items ++ map (counts l.stars l.more) (range_with_len 0 l.less);
  none : rows_in l.groups.items ≡ [];
}
