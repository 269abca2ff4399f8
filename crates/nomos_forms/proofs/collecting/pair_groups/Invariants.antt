use Rattle.std.proofs.Common.{take}
use Rattle.std.specs.List.{flat_map}
use Rattle.nomos_forms.specs.RowsOf.{pair_rows}
use Rattle.nomos_forms.specs.RowGroups.{rows_in}
use Rattle.nomos_forms.specs.mirror.Collected.{AreCounted}
use Rattle.nomos_forms.specs.mirror.SameRows.{HasSame}
use Rattle.nomos_forms.proofs.collecting.pair_groups.Given as goal

-- the rows of the pairs so far
abbrev pub invariant-loop-pair : goal.invariant-loop-pair
invariant-loop-pair l = record {
  counted : AreCounted l.stars l.groups.items;
  rows : HasSame (rows_in l.groups.items) (flat_map (pair_rows l.stars) (take l.pair-index l.pairs));
}
