use Rattle.std.proofs.Common.{length, refl}
use Rattle.std.proofs.lemmas.Option.{slice_get_past, slice_get_read}
use Rattle.nomos_state.proofs.RowLemmas.{bound-told, unbound-told}
use Rattle.nomos_state.proofs.value_rows.is_bound_at.Goals as goal

pub returns-in-Some : goal.returns-in-Some
returns-in-Some g c =
    let row = c.args.row.now in
    let e = c.in-Some.pair.now in
    let (within, found) = c.in-Some.ensures.lookup.3 in
    bound-told c.args.v row c.args.at e (slice_get_read row (length row) c.args.at e refl within (found e))

pub returns-in-None : goal.returns-in-None
returns-in-None g c =
    let row = c.args.row.now in
    unbound-told c.args.v row c.args.at (slice_get_past row c.args.at c.in-None.ensures.lookup.3)
