use Rattle.std.proofs.Common.{refl, subst, sym}
use Rattle.nomos_machine.specs.declared.object.Object.{Object}
use Rattle.nomos_typed.specs.mirror.AtPlaces.{MarksObject}
use Rattle.nomos_typed.proofs.PlacingLemmas.{message-marks, process-marks}
use Rattle.nomos_typed.proofs.placing.mark_object.Goals as goal

pub returns-in-Process : goal.returns-in-Process
returns-in-Process c =
    subst (λ (o : Object). MarksObject o c.args.wanted.now c.mark.new.wanted) (sym c.in-Process.is)
    (process-marks _ c.args.wanted.now c.mark.new.wanted c.mark.ensures)

pub returns-in-Message : goal.returns-in-Message
returns-in-Message c =
    subst (λ (o : Object). MarksObject o c.args.wanted.now c.args.wanted.now) (sym c.in-Message.is)
    (message-marks _ c.args.wanted.now c.args.wanted.now refl)
