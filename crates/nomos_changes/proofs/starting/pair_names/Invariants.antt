-- The pairs so far, with those of the parameters that are left, are all of them.
use Rattle.std.proofs.Common.{◌≡◌, ◌++◌, drop, map}
use Rattle.std.specs.List.{zip}
use Rattle.nomos_changes.proofs.starting.pair_names.Given as goal

abbrev pub invariant-loop-at : goal.invariant-loop-at
invariant-loop-at l =
    l.made.items ++ zip (map (λ par. par.0) (drop l.at l.pars)) (drop l.at l.names)
    ≡ zip (map (λ par. par.0) l.pars) l.names
