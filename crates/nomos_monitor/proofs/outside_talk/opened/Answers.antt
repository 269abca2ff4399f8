use Rattle.std.proofs.Common.{refl}
use Rattle.nomos_monitor.proofs.OpenedLaws.{named-talk, opens-named}
use Rattle.nomos_monitor.proofs.outside_talk.opened.Goals as goal

pub invariant_of-result : goal.invariant_of-result
invariant_of-result g c =
    let by = c.requires.open.1 in
    record {
      talk =
          named-talk c.know.ensures.accepted c.requires.may.typed c.requires.may.gas
          (opens-named by c.in-Ok.ensures.ok);
      watched = c.in-Ok.ensures.watched;
      unmarked = c.in-Ok.ensures.marked;
    }

pub returns : goal.returns
returns g c name by = (refl, refl, opens-named by c.in-Ok.ensures.ok)
