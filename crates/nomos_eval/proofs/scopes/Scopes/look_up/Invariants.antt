-- The variables before do not have the number.
use Rattle.std.proofs.Common.{◌≡◌, ◌<◌, [], length, get_or}
use Rattle.nomos_ir.specs.Bindings.{bound_to}
use Rattle.nomos_eval.proofs.scopes.Scopes.look_up.Given as goal

abbrev pub invariant-loop-w : goal.invariant-loop-w
invariant-loop-w l =
    (l.at < length l.self) × (bound_to l.v.0 (get_or l.self l.initial.at []) ≡ bound_to l.v.0 (get_or l.self l.at []))

abbrev pub decreases-loop-w : goal.decreases-loop-w
decreases-loop-w l = l.at
