use Rattle.std.proofs.Common.{◌≡◌, []}
use Rattle.std.specs.List.{range_with_len, flat_map}
use Rattle.nomos_forms.specs.RowGroups.{rows_in}
use Rattle.nomos_forms.specs.mirror.StarCounts.{counts_with}
use Rattle.nomos_forms.specs.mirror.Joining.{coefs_of}
use Rattle.nomos_forms.proofs.counts.count_groups.Given as goal

-- the first stars so far
abbrev pub invariant-loop-more : goal.invariant-loop-more
invariant-loop-more l = record {
  coefs : coefs_of l.groups.items ≡ flat_map (counts_with l.stars) (range_with_len 0 l.more);
  none : rows_in l.groups.items ≡ [];
}
