use Rattle.std.proofs.Common.{◌≡◌, map, take}
use Rattle.nomos_simplex.specs.Exits.{weight_of}
use Rattle.nomos_simplex.proofs.refusing.resolved.Given as goal

abbrev pub invariant-loop-weight : goal.invariant-loop-weight
invariant-loop-weight l = l.list.items ≡ map (weight_of l.rows) (take l.weight-index l.weights)
