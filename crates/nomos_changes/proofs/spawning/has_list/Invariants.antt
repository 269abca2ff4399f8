-- No list is among the arguments before.
use Rattle.std.proofs.Common.{◌≡◌, drop}
use Rattle.nomos_changes.specs.Beginnings.{has_list}
use Rattle.nomos_changes.proofs.spawning.has_list.Given as goal

abbrev pub invariant-loop-arg : goal.invariant-loop-arg
invariant-loop-arg l = has_list (drop l.arg-index l.args) ≡ has_list l.args
