use Rattle.nomos_slots.proofs.NumberLaws.{in-order-new}
use Rattle.nomos_slots.proofs.numbered.Numbered.new.Goals as goal

pub invariant_of-result : goal.invariant_of-result
invariant_of-result g c = in-order-new c.new.result c.new.ensures.now c.new.ensures.marked
