use Rattle.std.proofs.Common.{List, map, subst}
use Rattle.nomos_deeds.specs.Lowest.{FindsNext}
use Rattle.nomos_deeds.specs.Readers.{IsTransaction}
use Rattle.nomos_plain.specs.Parts.{object_in}
use Rattle.nomos_plain.specs.Plain.{Plain}
use Rattle.nomos_plain.specs.declared.plain_object.PlainObject.{PlainObject}
use Rattle.nomos_plain.proofs.plain.PlainStateMachine.next_transaction.Goals as goal

pub returns : goal.returns
returns c =
    subst (λ (s : Plain). FindsNext (IsTransaction s.state.objects) c.args.after c.next_transaction.result)
    c.self.view_is
    (subst (λ (objects : List PlainObject). FindsNext (IsTransaction (map object_in objects)) c.args.after
    c.next_transaction.result)
    c.deref.ensures.value c.next_transaction.ensures)
