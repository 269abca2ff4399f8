use Rattle.nomos_forms.specs.Bounds.{IsRow}
use Rattle.nomos_forms.specs.RowGroups.{rows_in}
use Rattle.nomos_forms.specs.RowsOf.{all_rows}
use Rattle.nomos_forms.proofs.CollectLemmas.{all-same, same-trans}
use Rattle.nomos_forms.proofs.collecting.rows.Goals as goal

pub invariant_of-result : goal.invariant_of-result
invariant_of-result c = record {
  few_stars = c.requires.stars;
  each = all-same (IsRow c.args.stars) c.in_ok-in_order.field-0 (rows_in c.in_ok-groups.groups.items)
      c.in_ok-in_order.ensures.same c.in_ok-groups.ensures.small;
}

pub returns-clause-rows : goal.returns-clause-rows
returns-clause-rows c = record {
  ascend = c.in_ok-in_order.ensures.ascend;
  same = same-trans c.in_ok-in_order.field-0 (rows_in c.in_ok-groups.groups.items)
      (all_rows c.args.stars c.args.forms.now c.args.pairs.now) c.in_ok-in_order.ensures.same
      c.in_ok-groups.ensures.rows;
}
