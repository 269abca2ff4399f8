use Rattle.nomos_monitor.proofs.KeepingLaws.{answer-ends, answer-talk}
use Rattle.nomos_monitor.proofs.OnceLaws.{hearing-only}
use Rattle.nomos_monitor.proofs.TalkingLaws.{message-hearable}
use Rattle.nomos_monitor.proofs.outside_talk.OutsideTalk.hear.Goals as goal

pub hear-requires-clause-hearable : goal.hear-requires-clause-hearable
hear-requires-clause-hearable g c =
    message-hearable c.know.ensures.accepted (g.M.Sight.state c.self.inside.running.machine)
    c.self.invariant.talk

pub invariant_of-self : goal.invariant_of-self
invariant_of-self g c = record {
  talk =
      answer-talk c.know.ensures.accepted (g.M.Sight.state c.self.inside.running.machine)
      (g.M.Sight.state c.hear.new.self.machine)
      c.self.inside.account c.hear.result c.hear.ensures.ok c.hear.ensures.err
      c.self.invariant.talk;
  watched = c.hear.ensures.watched;
  unmarked = c.hear.ensures.marked;
}

pub returns-clause-ends : goal.returns-clause-ends
returns-clause-ends g c =
    rw (← c.self.view_is)
    (answer-ends c.know.ensures.accepted (g.M.Sight.state c.self.inside.running.machine)
    (g.M.Sight.state c.hear.new.self.machine)
    c.self.inside.account c.hear.result c.hear.ensures.ok c.self.invariant.talk)

pub returns-clause-only : goal.returns-clause-only
returns-clause-only g c other t answers =
    hearing-only (g.M.Sight.state c.self.inside.running.machine) (g.M.Sight.state c.hear.new.self.machine)
    c.self.inside.account other t (rw (← c.self.view_is) at answers) c.hear.result c.hear.ensures.ok
