use Rattle.std.proofs.Common.{◌≡◌, ◌<◌, ◌≤◌, ◌+◌, ◌-◌, ◌/◌, Some, slice_get, sym, ◌∙◌, arith}
use Rattle.nomos_slots.proofs.NumberLaws.{below-more, onwards-more}
use Rattle.nomos_slots.proofs.numbered.halved_place.Goals as goal

pub loop-from-preserved-then-slot-number-2 : goal.loop-from-preserved-then-slot-number-2
loop-from-preserved-then-slot-number-2 g c =
    let middle = c.loop-from.from + (c.loop-from.to - c.loop-from.from) / 2 in
    let slots = c.args.slots.now.now in
    let slot = c.in_ok-slot.slot in
    let read : slice_get slots middle ≡ Some slot = sym c.get.ensures ∙ c.in_ok-slot.was in
    record {
      within = c.loop-from.invariant.within;
      below = below-more slots middle c.args.number slot c.requires read c.if-slot-number-2.true;
      onwards = c.loop-from.invariant.onwards;
    }

pub loop-from-preserved : goal.loop-from-preserved
loop-from-preserved g c =
    let middle = c.loop-from.from + (c.loop-from.to - c.loop-from.from) / 2 in
    let slots = c.args.slots.now.now in
    let slot = c.in_ok-slot.slot in
    let read : slice_get slots middle ≡ Some slot = sym c.get.ensures ∙ c.in_ok-slot.was in
    let before : middle ≤ c.loop-from.to = omega arith in
    let higher : c.args.number < slot.number = omega arith in
    record {
      within = omega arith;
      below = c.loop-from.invariant.below;
      onwards = onwards-more slots middle c.args.number slot c.requires read higher;
    }
