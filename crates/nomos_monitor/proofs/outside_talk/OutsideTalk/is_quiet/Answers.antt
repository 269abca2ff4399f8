use Rattle.nomos_monitor.proofs.ReadyLaws.{none-quiet}
use Rattle.nomos_monitor.proofs.outside_talk.OutsideTalk.is_quiet.Goals as goal

pub returns-clause-quiet : goal.returns-clause-quiet
returns-clause-quiet g c =
    rw (← c.self.view_is)
    (none-quiet c.self.inside.accepted.now (g.M.Sight.state c.self.inside.running.machine) c.lowest.result
    c.is_none.result c.is_none.ensures c.lowest.ensures.lowest)
