use Rattle.nomos_contract_tests.specs.Fitting.{StandOnce}
use Rattle.nomos_contract_tests.proofs.fitting_nodes.stand_once.Given as goal

-- the numbers so far occur once
abbrev pub invariant-loop-t : goal.invariant-loop-t
invariant-loop-t l = StandOnce l.places l.t
