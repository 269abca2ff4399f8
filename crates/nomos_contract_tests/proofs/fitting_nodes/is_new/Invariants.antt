use Rattle.std.proofs.Common.{◌≢◌, ◌<◌, ℕ, get_or}
use Rattle.nomos_contract_tests.proofs.fitting_nodes.is_new.Given as goal

-- no number so far is the one at the place
abbrev pub invariant-loop-k : goal.invariant-loop-k
invariant-loop-k l = (k : ℕ) → k < l.k → get_or l.numbers k 0 ≢ get_or l.numbers l.place 0
