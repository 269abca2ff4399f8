-- The pairs so far, with those of the parameters that are left, are all of them.
use Rattle.std.proofs.Common.{◌≡◌, ◌++◌, drop, map}
use Rattle.std.specs.List.{zip}
use Rattle.nomos_changes.proofs.starting.pair_values.Given as goal

abbrev pub invariant-loop-par : goal.invariant-loop-par
invariant-loop-par l =
    l.made.items ++ zip (map (λ par. par.var) (drop l.par-index l.pars)) l.left
    ≡ zip (map (λ par. par.var) l.pars) l.values
