use Rattle.nomos_slots.proofs.BesideLemmas.{AreClosed}
use Rattle.nomos_slots.proofs.beside.close_rows.Given as goal

abbrev pub invariant-loop-place : goal.invariant-loop-place
invariant-loop-place g l = AreClosed l.fn.from l.slots.now l.fn.rows l.to l.place l.rows
