use Rattle.nomos_monitor.proofs.OnceLaws.{saying-once}
use Rattle.nomos_monitor.proofs.outside_talk.OutsideTalk.say.Goals as goal

pub returns-clause-only : goal.returns-clause-only
returns-clause-only g c other t answers =
    saying-once c.args.self.now.a c.args.self.now.state c.args.self.now.account c.args.said.now other c.speak.result t
    c.speak.new.self.state answers c.speak.ensures.answers
