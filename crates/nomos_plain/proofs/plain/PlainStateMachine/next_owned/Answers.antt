use Rattle.std.proofs.Common.{subst}
use Rattle.nomos_deeds.specs.Lowest.{FindsNext}
use Rattle.nomos_deeds.specs.Readers.{IsLinearName}
use Rattle.nomos_machine.specs.State.{NameTypes}
use Rattle.nomos_plain.specs.Plain.{Plain}
use Rattle.nomos_plain.proofs.plain.PlainStateMachine.next_owned.Goals as goal

pub returns : goal.returns
returns c =
    subst (λ (s : Plain). FindsNext (IsLinearName c.args.accepted.now.program s.state.types) c.args.after
    c.next_owned.result)
    c.self.view_is
    (subst (λ (types : NameTypes). FindsNext (IsLinearName c.args.accepted.now.program types) c.args.after
    c.next_owned.result)
    c.deref.ensures.value c.next_owned.ensures)
