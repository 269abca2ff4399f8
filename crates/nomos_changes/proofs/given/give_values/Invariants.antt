-- The values and lists so far, with those of the parameters that are left, are all of them.
use Rattle.std.proofs.Common.{◌≡◌, Some, drop}
use Rattle.nomos_machine.specs.Given.{give_values}
use Rattle.nomos_machine.specs.State.{process_at}
use Rattle.nomos_machine.specs.declared.object.Process.{Process}
use Rattle.nomos_changes.proofs.GivenLemmas.{followed}
use Rattle.nomos_changes.proofs.given.give_values.Given as goal

abbrev pub invariant-loop-at : goal.invariant-loop-at
invariant-loop-at g l =
    (p : Process) → process_at (g.P.Sight.state l.parts) l.pid ≡ Some p
    → followed (l.given.values.items, l.given.lists.items)
    (give_values p l.left (drop l.at l.args) (drop l.at l.pars))
    ≡ give_values p l.fn.values l.args l.pars
