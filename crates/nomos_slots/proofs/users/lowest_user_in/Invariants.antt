use Rattle.nomos_slots.proofs.UserLemmas.{LowestBelow}
use Rattle.nomos_slots.proofs.users.lowest_user_in.Given as goal

-- it is the lowest one of the first cells
abbrev pub invariant-loop-at : goal.invariant-loop-at
invariant-loop-at l = LowestBelow l.cells.now l.name l.at l.lowest
