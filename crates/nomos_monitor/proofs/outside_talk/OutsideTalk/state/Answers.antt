use Rattle.nomos_monitor.proofs.KeepingLaws.{goes-well}
use Rattle.nomos_monitor.proofs.outside_talk.OutsideTalk.state.Goals as goal

pub returns-clause-goes_on : goal.returns-clause-goes_on
returns-clause-goes_on g c =
    rw (← c.self.view_is) (goes-well c.know.ensures.accepted c.self.invariant.talk)
