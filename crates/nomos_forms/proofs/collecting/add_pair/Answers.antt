use Rattle.std.proofs.Common.{[], ◌∷◌, ◌++◌}
use Rattle.nomos_forms.specs.RowsOf.{difference_row, pair_rows}
use Rattle.nomos_forms.specs.RowGroups.{rows_in}
use Rattle.nomos_forms.proofs.CollectLemmas.{same-trans, same-swapped}
use Rattle.nomos_forms.proofs.GroupLemmas.{same-behind}
use Rattle.nomos_forms.proofs.collecting.add_pair.Goals as goal

pub returns-clause-rows : goal.returns-clause-rows
returns-clause-rows c =
    let stars = c.args.stars in
    let pair = c.args.pair.now in
    let old = rows_in c.args.groups.now.items in
    let mid = rows_in c.add_difference.new.groups.items in
    let first = difference_row stars pair.0 pair.1 in
    let second = difference_row stars pair.1 pair.0 in
    same-trans (rows_in c.add_difference-2.new.groups.items) (first ∷ mid) (old ++ pair_rows stars pair)
    c.in_ok-add_difference-2.ensures.rows
    (same-trans (first ∷ mid) (first ∷ second ∷ old) (old ++ pair_rows stars pair)
    (same-behind (first ∷ []) mid (second ∷ old) c.in_ok-add_difference.ensures.rows)
    (same-swapped (pair_rows stars pair) old))
