use Rattle.std.proofs.Common.{drop, map}
use Rattle.nomos_changes.proofs.StartingLemmas.{all-paired}
use Rattle.nomos_changes.proofs.starting.pair_values.Goals as goal

pub returns-in_default : goal.returns-in_default
returns-in_default c =
    all-paired c.loop-par.made.items _ (map (λ par. par.var) (drop c.loop-par.par-index c.args.pars.now))
    c.loop-par.left.now c.in_default.ensures c.loop-par.invariant
