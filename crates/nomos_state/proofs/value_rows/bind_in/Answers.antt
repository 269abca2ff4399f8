use Rattle.std.proofs.Common.{nat_lt, List, [], sym, ap, ◌∙◌, subst, slice_index_or, slice_set, slice_get}
use Rattle.std.proofs.lemmas.Bool.{both_ways}
use Rattle.std.specs.List.{insert, prefix_len}
use Rattle.nomos_state.specs.Rebound.{IsBoundAt}
use Rattle.nomos_state.specs.Objects.{AscendsIf, ValueRow}
use Rattle.nomos_state.proofs.RowLemmas.{bind-insert, bind-set}
use Rattle.nomos_state.proofs.value_rows.bind_in.Goals as goal

pub count_below-at-requires : goal.count_below-at-requires
count_below-at-requires c =
    subst (λ (r : ValueRow). AscendsIf c.args.ascends r) (sym c.row.ensures) c.requires.order

pub returns-then-is_bound_at-clause-ok : goal.returns-then-is_bound_at-clause-ok
returns-then-is_bound_at-clause-ok c =
    let rows = c.args.values.now.now in
    let row : ValueRow = slice_index_or rows c.args.place [] in
    let n = c.count_below-at.result in
    let bound : IsBoundAt c.args.pair.0 row n =
    subst (λ (r : ValueRow). IsBoundAt c.args.pair.0 r n) c.row-2.ensures
    (c.is_bound_at.ensures.0 c.if-is_bound_at.true) in
    let (e, read, same) = bound in
    let count = c.count_below-at.ensures.count ∙ ap (prefix_len (λ e. nat_lt e.0.0 c.args.pair.0.0)) c.row.ensures in
    let again = ap (λ (r : ValueRow). slice_get r n) c.row-then-is_bound_at.ensures ∙ read in
    c.replace-before.ensures.now
    ∙ ap (slice_set rows c.args.place)
    (c.in_ok-row.ensures e again
    ∙ ap (λ (r : ValueRow). slice_set r n (e.0, c.args.pair.1)) c.row-then-is_bound_at.ensures
    ∙ bind-set c.args.pair.0 c.args.pair.1 row n e count read same)

pub returns-clause-ok : goal.returns-clause-ok
returns-clause-ok c =
    let rows = c.args.values.now.now in
    let row : ValueRow = slice_index_or rows c.args.place [] in
    let n = c.count_below-at.result in
    let count = c.count_below-at.ensures.count ∙ ap (prefix_len (λ e. nat_lt e.0.0 c.args.pair.0.0)) c.row.ensures in
    let other = λ (bound : IsBoundAt c.args.pair.0 row n).
    both_ways _ c.if-is_bound_at.false
    (c.is_bound_at.ensures.1 (subst (λ (r : ValueRow). IsBoundAt c.args.pair.0 r n) (sym c.row-2.ensures) bound)) in
    c.insert.ensures.now
    ∙ ap (λ (rs : List ValueRow). slice_set rs c.args.place
    (insert (slice_index_or rs c.args.place []) n (c.args.pair.0, c.args.pair.1)))
    c.reserve_in.ensures.now
    ∙ ap (slice_set rows c.args.place) (bind-insert c.args.pair.0 c.args.pair.1 row n count other)
