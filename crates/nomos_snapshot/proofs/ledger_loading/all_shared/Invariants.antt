-- The contracts so far have such names.
use Rattle.nomos_snapshot.specs.mirror.Loaded.{AreSharedTo}
use Rattle.nomos_snapshot.proofs.ledger_loading.all_shared.Given as goal

abbrev pub invariant-loop-place : goal.invariant-loop-place
invariant-loop-place g l = AreSharedTo l.accepted (g.M.Sight.state l.machine) l.contracts l.place
