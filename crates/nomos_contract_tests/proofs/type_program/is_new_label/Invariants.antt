use Rattle.std.proofs.Common.{◌≢◌, ◌<◌, ℕ, List, get_or}
use Rattle.nomos_contract_tests.proofs.type_program.is_new_label.Given as goal

-- no label so far is this one
abbrev pub invariant-loop-k : goal.invariant-loop-k
invariant-loop-k l = (k : ℕ) (d : List ℕ) → k < l.k → get_or l.labels k d ≢ get_or l.labels l.place d
