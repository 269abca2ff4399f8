use Rattle.std.proofs.Common.{length}
use Rattle.nomos_tale.proofs.FiringLemmas.{gives-allowed}
use Rattle.nomos_tale.proofs.next_firing.fires_or_rests.Goals as goal

pub returns-in-None : goal.returns-in-None
returns-in-None g c = λ limit few.
    let w = c.args.world.now in
    gives-allowed c.args.accepted.now w.state (length w.firings) limit c.end_at_rest.result
    (c.end_at_rest.ensures (length w.firings) limit)
