use Rattle.std.proofs.Common.{◌≡◌, length, take}
use Rattle.nomos_forms.specs.RowGroups.{rows_in}
use Rattle.nomos_forms.specs.mirror.GroupEnds.{ends_after}
use Rattle.nomos_forms.proofs.rows.ends_of.Given as goal

-- the ends so far, and the last of them
abbrev pub invariant-loop-group : goal.invariant-loop-group
invariant-loop-group l = record {
  ends : l.ends.items ≡ ends_after 0 (take l.group-index l.groups);
  end : l.end ≡ length (rows_in (take l.group-index l.groups));
}
