use Rattle.std.proofs.Common.{◌<◌, ℕ, get_or}
use Rattle.nomos_ir.specs.declared.type_node.TypeAt.{TypeAt}
use Rattle.nomos_contract_tests.specs.Fitting.{NodeFits}
use Rattle.nomos_contract_tests.proofs.fitting_nodes.nodes_fit.Given as goal

-- the nodes so far fit
abbrev pub invariant-loop-place : goal.invariant-loop-place
invariant-loop-place l = (t : ℕ) (d : TypeAt) → t < l.place → NodeFits l.lists t (get_or l.types t d).node
