use Rattle.std.proofs.Common.{sym, ap, ◌∙◌}
use Rattle.std.specs.List.{slice_get}
use Rattle.nomos_slots.specs.Marking.{Marking}
use Rattle.nomos_slots.specs.Numbers.{put_at}
use Rattle.nomos_slots.specs.declared.numbered.Slot.{Slot}
use Rattle.nomos_slots.proofs.NumberLaws.{in-order-put, put_at-past, put_at-set}
use Rattle.nomos_slots.proofs.numbered.Numbered.put.Goals as goal

pub invariant_of-self : goal.invariant_of-self
invariant_of-self g c =
    let slots = c.self.inside.slots in
    let place = c.args.place in
    let is = c.put.ensures.now ∙ put_at-set slots.now place c.in-Some.slot c.args.item (sym c.in-Some.ensures) in
    in-order-put slots c.put.new.self place c.args.item c.self.invariant is c.put.ensures.marked c.put.ensures.seats

pub returns-in-Some-clause-now : goal.returns-in-Some-clause-now
returns-in-Some-clause-now g c =
    ap (λ (m : Marking (Slot _)). m.now) c.remember.ensures
    ∙ ap (λ (m : Marking (Slot _)). m.now) c.count_gap.ensures
    ∙ c.put.ensures.now
    ∙ put_at-set c.self.inside.slots.now c.args.place c.in-Some.slot c.args.item (sym c.in-Some.ensures)
    ∙ ap (λ (m : Marking (Slot _)). put_at m.now c.args.place c.args.item) c.self.view_is

pub returns-in_default-clause-now : goal.returns-in_default-clause-now
returns-in_default-clause-now g c =
    let same = ap (λ (m : Marking (Slot _)). slice_get m.now c.args.place) (sym c.self.view_is) in
    let past = same ∙ sym c.in_default.ensures in
    put_at-past c.args.self.now.now c.args.place c.args.item past
