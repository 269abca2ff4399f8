use Rattle.std.proofs.Common.{◌≤◌, None, length, sym, ◌∙◌, arith}
use Rattle.std.proofs.lemmas.List.{get_or_past}
use Rattle.nomos_slots.proofs.CellLemmas.{gap-closed}
use Rattle.nomos_slots.proofs.cells.close_up.Goals as goal

pub returns-in_default-clause-probed : goal.returns-in_default-clause-probed
returns-in_default-clause-probed c =
    gap-closed c.args.homes c.loop-next.cells.now c.loop-next.hole c.loop-next.next c.loop-next.invariant.gap
    (sym c.cell.ensures ∙ c.in_default.is)

pub returns-clause-probed : goal.returns-clause-probed
returns-clause-probed c =
    let past : length c.loop-next.cells.now ≤ c.loop-next.next =
    omega (arith, c.len-end.ensures, c.loop-next.invariant.len) in
    gap-closed c.args.homes c.loop-next.cells.now c.loop-next.hole c.loop-next.next c.loop-next.invariant.gap
    (get_or_past c.loop-next.cells.now c.loop-next.next None past)
