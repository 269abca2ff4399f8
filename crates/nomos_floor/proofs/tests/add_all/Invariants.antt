use Rattle.nomos_floor.specs.FloorPass.{KeepsPass}
use Rattle.nomos_floor.proofs.tests.add_all.Given as goal

abbrev pub invariant-loop-entry : goal.invariant-loop-entry
invariant-loop-entry g l = KeepsPass l.floor l.fn.pass l.pass
