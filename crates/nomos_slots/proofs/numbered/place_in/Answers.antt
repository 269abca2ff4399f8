use Rattle.std.proofs.Common.{◌≡◌, Some, slice_get, sym, ◌∙◌, arith}
use Rattle.std.proofs.lemmas.List.{length-map}
use Rattle.nomos_slots.specs.declared.numbered.Slot.{Slot}
use Rattle.nomos_slots.proofs.NumberLaws.{below-more}
use Rattle.nomos_slots.proofs.numbered.place_in.Goals as goal

pub returns-then-last-number : goal.returns-then-last-number
returns-then-last-number g c k d within same =
    let slots = c.args.slots.now.now in
    let last = c.in_ok-last.last in
    let read : slice_get slots c.in_ok-end.end ≡ Some last = sym c.get.ensures ∙ c.in_ok-last.was in
    let lower = below-more slots c.in_ok-end.end c.args.number last c.requires read c.if-last-number.true k d
    (omega (arith, length-map slots (λ (x : Slot g.row.T.Denot). x.number))) in omega arith
