use Rattle.std.proofs.Common.{◌<◌, All, Some, ap, sym, subst, arith}
use Rattle.nomos_slots.specs.Marking.{Marking}
use Rattle.nomos_slots.specs.Numbers.{numbers}
use Rattle.nomos_slots.specs.declared.numbered.Slot.{Slot}
use Rattle.nomos_slots.proofs.NumberLaws.{in-order-push}
use Rattle.nomos_slots.proofs.numbered.Numbered.push.Goals as goal

pub invariant_of-self : goal.invariant_of-self
invariant_of-self g c =
    let s : Slot _ = record { number = c.args.number; item = Some c.args.item } in
    let view = sym c.self.view_is in
    let above = subst (λ (m : Marking (Slot _)). All (λ n. n < c.args.number) (numbers m.now)) view c.requires.above in
    let free = ap (λ (m : Marking (Slot _)). m.room) c.self.view_is in
    in-order-push c.self.inside.slots c.push.new.self s c.self.invariant above c.push.ensures.now c.push.ensures.marked
    (omega (arith, free, c.requires.room)) c.push.ensures.seats
