use Rattle.std.proofs.Common.{◌≡◌}
use Rattle.nomos_state_tests.proofs.transactions.declaration_named.Given as goal

abbrev pub invariant-loop-d : goal.invariant-loop-d
invariant-loop-d l = l.number ≡ l.d-index
