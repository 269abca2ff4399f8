use Rattle.nomos_monitor.proofs.OnceLaws.{resting-once}
use Rattle.nomos_monitor.proofs.outside_talk.OutsideTalk.run.Goals as goal

pub returns-clause-only : goal.returns-clause-only
returns-clause-only g c made how t comes =
    resting-once c.fire_to_rest.new.self.state made how t comes c.fire_to_rest.result c.fire_to_rest.ensures.ok
