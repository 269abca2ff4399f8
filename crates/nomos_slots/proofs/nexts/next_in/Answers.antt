use Rattle.std.proofs.Common.{◌≤◌, length, sym, ◌∙◌, arith}
use Rattle.nomos_slots.specs.Cells.{home}
use Rattle.nomos_slots.proofs.NextLemmas.{none-before, none-to_end}
use Rattle.nomos_slots.proofs.nexts.next_in.Goals as goal

pub returns-in_default-clause-none : goal.returns-in_default-clause-none
returns-in_default-clause-none c v from_on below =
    let over : home c.args.homes c.args.process c.args.from ≤ c.loop-at.at =
    omega (arith, c.home-at.ensures.home, c.loop-at.auto.at) in
    none-before c.args.homes c.args.process c.args.from c.loop-at.next c.args.cells.now.now c.requires.probed
    c.loop-at.at c.loop-at.invariant.clear over (sym c.cell.ensures ∙ c.in_default.is) v from_on below
    (c.requires.own v from_on (omega (arith, below, c.loop-at.invariant.within)))

pub returns-clause-none : goal.returns-clause-none
returns-clause-none c v from_on below =
    let past : length c.args.cells.now.now ≤ c.loop-at.at = omega (arith, c.len-at-end.ensures) in
    none-to_end c.args.homes c.args.process c.args.from c.loop-at.next c.args.cells.now.now c.requires.probed
    c.loop-at.at c.loop-at.invariant.clear past v from_on below
    (c.requires.own v from_on (omega (arith, below, c.loop-at.invariant.within)))
