-- The copies so far are of the first pairs.
use Rattle.std.proofs.Common.{◌≡◌, take}
use Rattle.nomos_deeds.proofs.value_copies.copy_env.Given as goal

abbrev pub invariant-loop-pair : goal.invariant-loop-pair
invariant-loop-pair l = l.made.items ≡ take l.pair-index l.env
