use Rattle.std.proofs.Common.{◌≡◌, ◌-◌, drop}
use Rattle.nomos_simplex.specs.Exits.{weights_below}
use Rattle.nomos_simplex.proofs.refusing.weights_of.Given as goal

-- the weights of the last columns
abbrev pub invariant-loop-done : goal.invariant-loop-done
invariant-loop-done l = l.weights.items ≡ weights_below (drop (l.count - l.done) l.nonbasic) (drop (l.count - l.done)
    l.coefs)
