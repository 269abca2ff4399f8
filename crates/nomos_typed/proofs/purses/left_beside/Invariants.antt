-- What is taken of the purse is what the lists before carry.
use Rattle.std.proofs.Common.{◌≡◌, ◌+◌, drop}
use Rattle.nomos_typed.specs.mirror.Purses.{carried_in}
use Rattle.nomos_typed.proofs.purses.left_beside.Given as goal

abbrev pub invariant-loop-pair : goal.invariant-loop-pair
invariant-loop-pair l = l.left + carried_in l.lists ≡ l.purse + carried_in (drop l.pair-index l.lists)
