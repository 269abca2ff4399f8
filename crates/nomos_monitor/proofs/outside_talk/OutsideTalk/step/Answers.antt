use Rattle.std.proofs.Common.{◌∙◌}
use Rattle.nomos_monitor.proofs.RunningLaws.{look-talk}
use Rattle.nomos_monitor.proofs.outside_talk.OutsideTalk.step.Goals as goal

pub invariant_of-self-2 : goal.invariant_of-self-2
invariant_of-self-2 g c =
    let fires = rw c.lowest.ensures.machine at c.in_ok-fire.ensures.ok in
    let marked = rw c.lowest.ensures.machine at c.in_ok-fire.ensures.marked in
    record {
      talk =
          look-talk c.know.ensures.accepted c.in-Some.pid c.in_ok-fire.field-0 c.self.invariant.talk fires;
      watched = c.in_ok-fire.ensures.watched;
      unmarked = marked ∙ c.self.invariant.unmarked;
    }
