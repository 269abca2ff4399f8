-- What was added up so far.
use Rattle.std.proofs.Common.{◌≡◌, ◌+◌, sum, sum_by, take}
use Rattle.nomos_machine.specs.Objects.{purse_of}
use Rattle.nomos_snapshot.proofs.loading.gas_of.Given as goal

abbrev pub invariant-loop-dths : goal.invariant-loop-dths
invariant-loop-dths l = l.gas ≡ sum (take l.dths-index l.dths-items) + l.contents.spent

abbrev pub invariant-loop-object : goal.invariant-loop-object
invariant-loop-object l =
    l.gas ≡ sum l.contents.balances + sum_by purse_of (take l.object-index l.object-items) + l.contents.spent
