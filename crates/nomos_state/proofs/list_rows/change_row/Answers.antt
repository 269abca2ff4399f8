use Rattle.std.proofs.Common.{◌∙◌, ap}
use Rattle.nomos_changes.specs.SmallChanges.{bound_if}
use Rattle.nomos_state.specs.Objects.{ListRow}
use Rattle.nomos_state.proofs.LeftLemmas.{only-twice}
use Rattle.nomos_state.proofs.list_rows.change_row.Goals as goal

pub returns-clause-row : goal.returns-clause-row
returns-clause-row c =
    only-twice c.args.lists.now.now c.unbind_in-left.new.lists.now c.bind_in.new.lists.now c.args.place
    c.unbind_in-left.ensures.row c.bind_in.ensures.row

pub returns-clause-left : goal.returns-clause-left
returns-clause-left c =
    c.bind_in.ensures.left ∙ ap (λ (ls : ListRow). bound_if c.args.bound ls) c.unbind_in-left.ensures.left
