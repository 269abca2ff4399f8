-- What is summed is the potential of the lists before.
use Rattle.std.proofs.Common.{◌≡◌, ◌+◌, drop}
use Rattle.nomos_state.specs.Objects.{potential_in}
use Rattle.nomos_state.proofs.weights.potential_of.Given as goal

abbrev pub invariant-loop-pair : goal.invariant-loop-pair
invariant-loop-pair l = l.sum + potential_in (drop l.pair-index l.lists) ≡ potential_in l.lists
