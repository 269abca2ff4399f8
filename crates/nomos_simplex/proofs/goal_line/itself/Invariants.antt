use Rattle.std.proofs.Common.{◌≡◌, ◌==◌, take, map, pos, if◌then◌else◌}
use Rattle.nomos_simplex.proofs.goal_line.itself.Given as goal

abbrev pub invariant-loop-other : goal.invariant-loop-other
invariant-loop-other l =
    l.coefs.items ≡ map (λ w. if w == l.variable then pos 1 else pos 0) (take l.other-index l.nonbasic)
