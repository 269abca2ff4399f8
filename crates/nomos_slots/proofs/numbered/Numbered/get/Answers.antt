use Rattle.std.proofs.Common.{sym, ap, ◌∙◌}
use Rattle.std.proofs.lemmas.Option.{MatchOption-at_none, MatchOption-at_some}
use Rattle.nomos_slots.specs.Marking.{Marking}
use Rattle.nomos_slots.specs.Numbers.{found}
use Rattle.nomos_slots.specs.declared.numbered.Slot.{Slot}
use Rattle.nomos_slots.proofs.NumberLaws.{found-none, found-read, not-past}
use Rattle.nomos_slots.proofs.numbered.Numbered.get.Goals as goal

pub returns-in_err-place : goal.returns-in_err-place
returns-in_err-place g c =
    let none = MatchOption-at_none _ _ c.in_err-place.was c.place_in.ensures in
    c.from_residual.ensures
    ∙ sym (found-none c.self.inside.slots.now c.args.number none)
    ∙ ap (λ (m : Marking (Slot _)). found m.now c.args.number) c.self.view_is

pub returns-in_err-slot : goal.returns-in_err-slot
returns-in_err-slot g c =
    let place = c.in_ok-place.place in
    let has = MatchOption-at_some _ _ place c.in_ok-place.was c.place_in.ensures in
    absurd (not-past c.self.inside.slots.now place c.args.number has (sym c.get.ensures ∙ c.in_err-slot.was))

pub returns : goal.returns
returns g c =
    let place = c.in_ok-place.place in
    let slots = c.self.inside.slots.now in
    let has = MatchOption-at_some _ _ place c.in_ok-place.was c.place_in.ensures in
    let read = sym c.get.ensures ∙ c.in_ok-slot.was in
    found-read slots place c.args.number c.in_ok-slot.slot c.self.invariant.now has read
    ∙ ap (λ (m : Marking (Slot _)). found m.now c.args.number) c.self.view_is
