use Rattle.nomos_monitor.proofs.KeepingLaws.{answer-watched}
use Rattle.nomos_monitor.proofs.running.Running.hear.Goals as goal

pub returns-clause-watched : goal.returns-clause-watched
returns-clause-watched g c =
    answer-watched c.know.ensures.accepted (g.M.Sight.state c.args.self.now.machine)
    (g.M.Sight.state c.hear.new.self) c.args.account c.requires.typed c.hear.ensures.typed c.hear.result
    c.hear.ensures.ok c.hear.ensures.err c.args.self.now.awake c.requires.watched
