-- The pairs so far are the same.
use Rattle.std.proofs.Common.{◌≡◌, take}
use Rattle.nomos_deeds.proofs.value_copies.is_same_env.Given as goal

abbrev pub invariant-loop-at : goal.invariant-loop-at
invariant-loop-at l = take l.at l.env ≡ take l.at l.other
