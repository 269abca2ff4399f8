use Rattle.std.proofs.Common.{sym, ap, subst, ◌∙◌, arith}
use Rattle.nomos_slots.specs.Marking.{Marking}
use Rattle.nomos_slots.specs.Numbers.{found, IsAscending}
use Rattle.nomos_slots.specs.declared.numbered.Slot.{Slot}
use Rattle.nomos_slots.proofs.NumberLaws.{in-order}
use Rattle.nomos_slots.proofs.GapLaws.{ascending-close, found-close}
use Rattle.nomos_slots.proofs.numbered.Numbered.close_gaps.Goals as goal

pub invariant_of-self : goal.invariant_of-self
invariant_of-self g c =
    let slots = c.self.inside.slots in
    let left = ascending-close c.args.from slots.now c.self.invariant.now in
    let now = subst IsAscending (sym c.move_up.ensures.now) left in
    in-order slots c.move_up.new.slots c.self.invariant now c.move_up.ensures.marked
    (omega (arith, c.self.invariant.seats, c.move_up.ensures.fewer, c.move_up.ensures.seats))

pub returns-clause-found : goal.returns-clause-found
returns-clause-found g c number =
    ap (λ xs. found xs number) c.move_up.ensures.now
    ∙ found-close c.args.from c.self.inside.slots.now number c.self.invariant.now
    ∙ ap (λ (m : Marking (Slot _)). found m.now number) c.self.view_is
