use Rattle.std.proofs.Common.{length}
use Rattle.nomos_workers.proofs.OneLemmas.{ends-no_abort}
use Rattle.nomos_workers.proofs.one.step.Goals as goal

pub returns-in_default-clause-ok : goal.returns-in_default-clause-ok
returns-in_default-clause-ok g c =
    let w = c.args.watched.now.world in
    let ends = rw c.chosen.ensures.world at (c.end_at_rest.ensures (length w.firings) c.args.limit) in
    let both =
    ends-no_abort c.args.chooser.policy c.args.accepted.now w.state (length w.firings) c.args.limit c.args.chooser.last
    w
    c.end_at_rest.result ends
    in
    (c.chosen.ensures.world, both.0, both.1)
