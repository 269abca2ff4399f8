use Rattle.nomos_legal.proofs.WorldLaws.{world-typed}
use Rattle.nomos_ledger.proofs.watched.Watched.fire.Goals as goal

pub returns-in-Fired-clause-watched : goal.returns-in-Fired-clause-watched
returns-in-Fired-clause-watched g c =
    let foreseen = c.foresee-foreseen.ensures in
    let fired = rw c.in-Fired.is at c.in_ok-answer.ensures.ok in
    c.wake.ensures.watched c.foresee-foreseen.new.self.world.state c.args.firing.pid
    (rw foreseen.world (world-typed c.know.ensures.accepted c.requires.stands)) fired.steps
    foreseen.foreseen foreseen.watched
