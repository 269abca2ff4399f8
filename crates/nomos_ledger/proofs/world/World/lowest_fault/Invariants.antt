use Rattle.std.proofs.Common.{◌-◌}
use Rattle.nomos_ledger.proofs.FaultLemmas.{NoFaultTo}
use Rattle.nomos_ledger.proofs.world.World.lowest_fault.Given as goal

-- no process so far has a fault
abbrev pub invariant-processes : goal.invariant-processes
invariant-processes g l = NoFaultTo l.accepted l.self.state l.after

-- how many numbers are left
abbrev pub decreases-processes : goal.decreases-processes
decreases-processes g l = l.self.state.next_object - l.after
