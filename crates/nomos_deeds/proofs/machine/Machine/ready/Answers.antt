use Rattle.nomos_deeds.proofs.FireLaws.{looks-ready}
use Rattle.nomos_deeds.proofs.machine.Machine.ready.Goals as goal

pub returns : goal.returns
returns g c =
    looks-ready c.args.accepted.now (g.Self.Sight.state c.args.self.now) c.args.pid c.looks_ready.result
    c.know.ensures.accepted c.requires c.looks_ready.ensures
