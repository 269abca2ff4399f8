-- The names so far, with those of the parameters that are left, are all of them.
use Rattle.std.proofs.Common.{◌≡◌, Some, drop}
use Rattle.nomos_machine.specs.Given.{give_names}
use Rattle.nomos_machine.specs.State.{process_at}
use Rattle.nomos_machine.specs.declared.object.Process.{Process}
use Rattle.nomos_changes.proofs.GivenLemmas.{names_followed}
use Rattle.nomos_changes.proofs.given.give_names.Given as goal

abbrev pub invariant-loop-at : goal.invariant-loop-at
invariant-loop-at g l =
    (p : Process) → process_at (g.P.Sight.state l.parts) l.pid ≡ Some p
    → names_followed l.names.items (give_names p (drop l.at l.args) (drop l.at l.pars)) ≡ give_names p l.args l.pars
