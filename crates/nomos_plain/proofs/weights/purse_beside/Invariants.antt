-- What is taken of the purse is the potential of the lists before.
use Rattle.std.proofs.Common.{◌≡◌, ◌+◌, drop}
use Rattle.nomos_changes.specs.Gives.{potential_in}
use Rattle.nomos_plain.proofs.weights.purse_beside.Given as goal

abbrev pub invariant-loop-pair : goal.invariant-loop-pair
invariant-loop-pair l =
    l.left + potential_in l.lists ≡ l.purse + potential_in (drop l.pair-index l.lists)
