use Rattle.nomos_changes.proofs.BecomesLemmas.{on_ok}
use Rattle.nomos_state.proofs.ListRowLemmas.{free-still}
use Rattle.nomos_state.proofs.list_rows.own_row.Goals as goal

pub returns-clause-free : goal.returns-clause-free
returns-clause-free c =
    on_ok c.reserve_in.result
    (λ enough. free-still c.free_row.new.lists c.reserve_in.new.self c.args.place c.reserve_in.ensures.marked
    c.reserve_in.ensures.freed c.in_ok-free_row.ensures.free)
    c.reserve_in.ensures.ok
