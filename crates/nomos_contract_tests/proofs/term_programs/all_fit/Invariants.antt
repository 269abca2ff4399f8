-- The nodes before fit.
use Rattle.std.proofs.Common.{◌≡◌, ◌-◌, ◌<◌, ◌≤◌, ℕ, true, length, Some, slice_get}
use Rattle.nomos_ir.specs.declared.term_node.TermNode.{TermNode}
use Rattle.nomos_contract_tests.specs.TermTable.{fits_at}
use Rattle.nomos_contract_tests.proofs.term_programs.all_fit.Given as goal

abbrev pub invariant-loop-place : goal.invariant-loop-place
invariant-loop-place l =
    (l.place ≤ length l.terms)
    × ((k : ℕ) (n : TermNode) → k < l.place → slice_get l.terms k ≡ Some n → fits_at k n ≡ true)

abbrev pub decreases-loop-place : goal.decreases-loop-place
decreases-loop-place l = length l.terms - l.place
