-- Without the lists that are left as well, it is the process in the end.
use Rattle.std.proofs.Common.{◌≡◌, drop}
use Rattle.nomos_types.specs.Acceptance.{Acceptance}
use Rattle.nomos_machine.specs.Deeds.{hands_over_lists}
use Rattle.nomos_machine.specs.State.{State}
use Rattle.nomos_machine.specs.declared.object.Process.{Process}
use Rattle.nomos_changes.specs.SmallChanges.{with_lists}
use Rattle.nomos_changes.proofs.spawning.without_lists.Given as goal

abbrev pub invariant-loop-arg : goal.invariant-loop-arg
invariant-loop-arg l =
    (a : Acceptance) (s : State) (p : Process) → p.lists ≡ l.lists
    → hands_over_lists a s p (drop l.arg-index l.args) (with_lists l.left.items p) ≡ hands_over_lists a s p l.args p
