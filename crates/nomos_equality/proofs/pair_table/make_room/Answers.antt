use Rattle.nomos_equality.proofs.BitLemmas.{get-set}
use Rattle.nomos_equality.proofs.VisitLemmas.{ok-map}
use Rattle.nomos_equality.proofs.pair_table.make_room.Goals as goal

pub returns-clause-there : goal.returns-clause-there
returns-clause-there c =
    ok-map c.fill_up.result
    (λ filled. (
      c.fill_up.new.row,
      get-set c.add_rows.new.rows.items c.args.left c.fill_up.new.row
          c.in_ok-add_rows.ensures.there,
      filled,
    ))
    c.fill_up.ensures.filled
