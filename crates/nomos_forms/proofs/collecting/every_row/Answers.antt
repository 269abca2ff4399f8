use Rattle.std.proofs.Common.{◌∙◌, ◌++◌, map, ap, sym, subst}
use Rattle.std.specs.List.{flat_map}
use Rattle.nomos_forms.specs.RowsOf.{form_row, pair_rows}
use Rattle.nomos_forms.specs.RowGroups.{rows_in}
use Rattle.nomos_forms.specs.mirror.SameRows.{HasSame}
use Rattle.nomos_forms.proofs.CollectLemmas.{same-trans, same-swapped}
use Rattle.nomos_forms.proofs.GroupLemmas.{same-front}
use Rattle.nomos_forms.proofs.collecting.every_row.Goals as goal

pub returns-clause-rows : goal.returns-clause-rows
returns-clause-rows c =
    let forms = map form_row c.args.forms.now in
    let pairs = flat_map (pair_rows c.args.stars) c.args.pairs.now in
    let old = rows_in c.in_ok-groups.groups.items in
    let added = c.in_ok-add_forms.ensures.rows ∙ ap (λ fs. old ++ map form_row fs) c.as_slice-2.ensures in
    let same = subst (λ ps. HasSame old (flat_map (pair_rows c.args.stars) ps)) c.as_slice.ensures
    c.in_ok-groups.ensures.rows in
    subst (λ rows. HasSame rows (forms ++ pairs)) (sym added)
    (same-trans (old ++ forms) (pairs ++ forms) (forms ++ pairs)
    (same-front forms old pairs same) (same-swapped pairs forms))
