use Rattle.std.proofs.Common.{◌<◌, ◌+◌, ◌-◌, ◌/◌, arith}
use Rattle.nomos_state.proofs.StartLemmas.{below-not_over, one-lower}
use Rattle.nomos_state.proofs.numbers_over.start_over.Goals as goal

pub loop-from-preserved-then-slot-after : goal.loop-from-preserved-then-slot-after
loop-from-preserved-then-slot-after g c =
    let middle = c.loop-from.from + (c.loop-from.to - c.loop-from.from) / 2 in
    let before : middle < c.loop-from.to = omega (arith, c.loop-from-test.true) in
    record {
      ordered = omega (arith, before);
      within = c.loop-from.invariant.within;
      below = one-lower c.args.slots.now.now middle c.args.after c.in-Some.slot c.requires c.in-Some.ensures
          c.if-slot-after.true;
    }

pub returns-clause-before : goal.returns-clause-before
returns-clause-before g c =
    below-not_over c.args.slots.now.now c.loop-from.from c.args.after c.loop-from.invariant.below
