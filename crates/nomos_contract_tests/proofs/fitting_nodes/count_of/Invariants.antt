use Rattle.std.proofs.Common.{◌≡◌, ◌≤◌, take}
use Rattle.nomos_ir.specs.Order.{count_of}
use Rattle.nomos_contract_tests.proofs.fitting_nodes.count_of.Given as goal

-- how often it occurred so far
abbrev pub invariant-loop-n : goal.invariant-loop-n
invariant-loop-n l = (l.count ≡ count_of l.number (take l.n-index l.numbers)) × (l.count ≤ l.n-index)
