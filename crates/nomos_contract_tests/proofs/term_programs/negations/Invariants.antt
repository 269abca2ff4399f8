-- As many terms as places.
use Rattle.std.proofs.Common.{◌≡◌, ◌+◌, length}
use Rattle.nomos_contract_tests.proofs.term_programs.negations.Given as goal

abbrev pub invariant-loop-place : goal.invariant-loop-place
invariant-loop-place l = length l.terms.items ≡ l.place + 1
