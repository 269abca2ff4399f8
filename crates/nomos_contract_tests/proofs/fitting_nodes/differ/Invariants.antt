use Rattle.std.proofs.Common.{◌≢◌, ◌<◌, ℕ, get_or}
use Rattle.nomos_contract_tests.proofs.fitting_nodes.differ.Given as goal

-- the numbers so far differ from all earlier ones
abbrev pub invariant-loop-place : goal.invariant-loop-place
invariant-loop-place l = (j : ℕ) → j < l.place → (k : ℕ) → k < j → get_or l.numbers k 0 ≢ get_or l.numbers j 0
