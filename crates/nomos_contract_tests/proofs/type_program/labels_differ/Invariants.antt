use Rattle.std.proofs.Common.{◌≢◌, ◌<◌, ℕ, List, get_or}
use Rattle.nomos_contract_tests.proofs.type_program.labels_differ.Given as goal

-- the labels so far differ from all earlier ones
abbrev pub invariant-loop-place : goal.invariant-loop-place
invariant-loop-place l =
    (j : ℕ) → j < l.place → (k : ℕ) (d : List ℕ) → k < j → get_or l.labels k d ≢ get_or l.labels j d
