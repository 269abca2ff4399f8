use Rattle.std.proofs.Common.{refl}
use Rattle.nomos_carry.specs.mirror.Errands as errands
use Rattle.nomos_carry.proofs.CallLemmas.{alone-behind, alone-wanting}
use Rattle.nomos_carry.proofs.carry.end_accepted.Goals as goal

pub returns-in-Some-clause-ends : goal.returns-in-Some-clause-ends
returns-in-Some-clause-ends g c = errands.wrote _ _ _ c.in-Some.ensures.due c.write_due.ensures.written

pub returns-in-Some-clause-alone : goal.returns-in-Some-clause-alone
returns-in-Some-clause-alone g c =
    alone-behind _ _ _ _ c.in-Some.due _ _ _ _ _ c.in-Some.ensures.due c.write_due.ensures.written
    c.accepted_due.ensures.snapshot_unread c.accepted_due.ensures.script_unread c.write_due.ensures.none

pub returns-in-None-clause-ends : goal.returns-in-None-clause-ends
returns-in-None-clause-ends g c = errands.wanted refl refl refl

pub returns-in-None-clause-alone : goal.returns-in-None-clause-alone
returns-in-None-clause-alone g c =
    alone-wanting _ _ _ c.accepted_due.ensures.snapshot_unread c.accepted_due.ensures.script_unread refl refl
