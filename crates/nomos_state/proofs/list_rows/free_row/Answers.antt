use Rattle.std.proofs.Common.{◌∙◌, [], ap, slice_set}
use Rattle.std.proofs.lemmas.List.{set-get_or}
use Rattle.nomos_state.proofs.list_rows.free_row.Goals as goal

pub returns-clause-now : goal.returns-clause-now
returns-clause-now c =
    let rows = c.args.lists.now.now in
    c.replace-before.ensures.now
    ∙ ap (slice_set rows c.args.place) (c.in_ok-row.ensures ∙ c.row.ensures)
    ∙ set-get_or rows c.args.place []
