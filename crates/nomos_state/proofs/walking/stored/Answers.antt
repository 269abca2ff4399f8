use Rattle.std.proofs.Common.{◌<◌, length, rules, arith}
use Rattle.nomos_state.specs.Indexed.{held_now}
use Rattle.nomos_state.proofs.SumLemmas.{carried-next}
use Rattle.nomos_state.proofs.walking.stored.Goals as goal

pub overflow_add-sum : goal.overflow_add-sum
overflow_add-sum c =
    let h = held_now c.args.contents.now in
    let within : c.loop-place.place < length h.slots = search rules in
    let step = carried-next h c.requires.holding c.loop-place.place within in
    omega (arith, step, c.loop-place.invariant, c.purse_at-sum.ensures, c.requires.fits)

pub loop-place-preserved : goal.loop-place-preserved
loop-place-preserved c =
    let h = held_now c.args.contents.now in
    let within : c.loop-place.place < length h.slots = search rules in
    let step = carried-next h c.requires.holding c.loop-place.place within in
    omega (arith, step, c.loop-place.invariant, c.purse_at-sum.ensures)
