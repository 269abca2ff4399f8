-- The pairs behind do not have the variable.
use Rattle.std.proofs.Common.{◌≡◌, ◌≤◌, take, reverse, length}
use Rattle.nomos_ir.specs.Bindings.{bound_to}
use Rattle.nomos_ir.proofs.bindings.bound_last.Given as goal

abbrev pub invariant-loop-before : goal.invariant-loop-before
invariant-loop-before g l =
    (l.before ≤ length l.pairs) × (bound_to l.v.0 (reverse l.pairs) ≡ bound_to l.v.0 (reverse (take l.before l.pairs)))

abbrev pub decreases-loop-before : goal.decreases-loop-before
decreases-loop-before g l = l.before
