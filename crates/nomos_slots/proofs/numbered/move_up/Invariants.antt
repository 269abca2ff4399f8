use Rattle.nomos_slots.proofs.GapLemmas.{IsMoved}
use Rattle.nomos_slots.proofs.numbered.move_up.Given as goal

abbrev pub invariant-loop-place : goal.invariant-loop-place
invariant-loop-place g l = IsMoved l.fn.from l.fn.slots l.to l.place l.slots
