use Rattle.nomos_monitor.proofs.OpenedLaws.{opened-covers}
use Rattle.nomos_monitor.proofs.ReadyLaws.{none-quiet}
use Rattle.nomos_monitor.proofs.running.Running.start_outside.Goals as goal

pub returns-clause-watched : goal.returns-clause-watched
returns-clause-watched g c =
    let opens = rw c.lowest.ensures.machine at c.in_ok-pid.ensures.ok in
    let first_name = rw c.lowest.ensures.machine at c.next_name-first_name.ensures in
    let tells = none-quiet c.args.accepted.now (g.M.Sight.state c.args.self.now.machine) c.lowest.result
    c.is_none-quiet.result c.is_none-quiet.ensures c.lowest.ensures.lowest in
    opened-covers c.know.ensures.accepted c.requires.may.typed c.in_ok-pid.ensures.typed opens.1
    (tells.0 c.if-not-quiet.false) c.awake_from.result c.in_ok-pid.pid c.next_name-first_name.result opens.0 first_name
    c.awake_from.ensures.woken c.awake_from.ensures.followed c.awake_from.ensures.noted
