use Rattle.std.proofs.Common.{drop, map, arith}
use Rattle.std.proofs.lemmas.List.{drop_all}
use Rattle.nomos_changes.proofs.StartingLemmas.{all-paired}
use Rattle.nomos_changes.proofs.starting.pair_names.Goals as goal

pub returns-in-None : goal.returns-in-None
returns-in-None c =
    let i = c.loop-at.at in
    all-paired c.loop-at.made.items _ (map (λ par. par.0) (drop i c.args.pars.now)) (drop i c.args.names.now)
    (drop_all i c.args.names.now (omega (arith, c.in-None.ensures.lookup))) c.loop-at.invariant
