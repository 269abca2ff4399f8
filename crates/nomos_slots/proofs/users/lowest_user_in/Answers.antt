use Rattle.std.proofs.Common.{◌≡◌, ◌+◌, length, sym, subst, arith}
use Rattle.nomos_slots.proofs.UserLemmas.{LowestBelow, all-lowest, next-lowest}
use Rattle.nomos_slots.proofs.users.lowest_user_in.Goals as goal

pub loop-at-preserved : goal.loop-at-preserved
loop-at-preserved c =
    let cells = c.args.cells.now.now in
    subst (LowestBelow cells c.args.name (c.loop-at.at + 1)) (sym c.lower_user-lowest.ensures)
    (next-lowest cells c.args.name c.loop-at.at c.cell.result c.loop-at.lowest (sym c.cell.ensures) c.loop-at.invariant)

pub returns : goal.returns
returns c =
    let cells = c.args.cells.now.now in
    let end : c.loop-at.at ≡ length cells = grind arith in
    all-lowest cells c.args.name c.requires c.loop-at.at c.loop-at.lowest end c.loop-at.invariant
