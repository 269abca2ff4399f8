use Rattle.std.proofs.Common.{◌≡◌, ◌∙◌, [], List, length, ap, arith, slice_index_or, slice_set}
use Rattle.std.proofs.lemmas.List.{get_or-set_same}
use Rattle.std.proofs.lemmas.List.Edits.{length-remove}
use Rattle.std.specs.List.{insert, remove}
use Rattle.nomos_state.specs.Objects.{ListRow}
use Rattle.nomos_state.proofs.ListRowLemmas.{changed-twice}
use Rattle.nomos_state.proofs.RowLemmas.{insert-after_remove}
use Rattle.nomos_state.proofs.list_rows.exchange.Goals as goal

pub insert-requires-clause-at : goal.insert-requires-clause-at
insert-requires-clause-at c =
    let rows = c.args.lists.now.now in
    let row : ListRow = slice_index_or rows c.args.place [] in
    let stands : slice_index_or c.remove-before.new.self.now c.args.place [] ≡ remove row c.args.at =
    ap (λ (rs : List ListRow). slice_index_or rs c.args.place []) c.remove-before.ensures.now
    ∙ get_or-set_same rows c.args.place (remove row c.args.at) [] c.requires.within in
    omega (arith, ap length stands, length-remove row c.args.at c.requires.at, c.requires.at)

pub returns-clause-now : goal.returns-clause-now
returns-clause-now c =
    let rows = c.args.lists.now.now in
    let place = c.args.place in
    let row : ListRow = slice_index_or rows place [] in
    let put : ListRow → ListRow = λ r. insert r c.args.at c.args.pair in
    c.insert.ensures.now
    ∙ ap (λ (rs : List ListRow). slice_set rs place (put (slice_index_or rs place []))) c.remove-before.ensures.now
    ∙ changed-twice rows place (remove row c.args.at) put c.requires.within
    ∙ ap (slice_set rows place) (insert-after_remove row c.args.at c.args.pair c.requires.at)
