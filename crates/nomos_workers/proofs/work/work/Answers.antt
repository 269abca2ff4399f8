use Rattle.std.proofs.Common.{subst}
use Rattle.nomos_floor.specs.FloorPass.{opened_work, seen_by}
use Rattle.nomos_workers.specs.mirror.WorkerTurns.{LeadsTo}
use Rattle.nomos_workers.proofs.work.work.Goals as goal

pub returns-in-Ends-clause-run : goal.returns-in-Ends-clause-run
returns-in-Ends-clause-run g c =
    let opened = opened_work c.args.floor.now in
    let seen = seen_by c.take_one-same.result.pass in
    subst (LeadsTo (g.W.Trade.program (g.W.Shared.start opened)) (g.W.Trade.stops opened seen)) c.in-Ends.is
    (c.after_turn.ensures opened seen c.take_one-same.ensures.free c.take_one-same.ensures.turns)
