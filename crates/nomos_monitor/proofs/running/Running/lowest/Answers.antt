use Rattle.nomos_monitor.proofs.ReadyLaws.{next-of_all}
use Rattle.nomos_monitor.proofs.running.Running.lowest.Goals as goal

pub returns-in-Some-clause-lowest : goal.returns-in-Some-clause-lowest
returns-in-Some-clause-lowest g c =
    next-of_all c.know.ensures.accepted c.requires.typed c.next_ready.result c.next_ready.ensures.next

pub returns-in-None-clause-lowest : goal.returns-in-None-clause-lowest
returns-in-None-clause-lowest g c =
    next-of_all c.know.ensures.accepted c.requires.typed c.next_ready-in-None.result
    c.next_ready-in-None.ensures
