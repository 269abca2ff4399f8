use Rattle.std.proofs.Common.{true, refl, IfOk, subst, sym}
use Rattle.nomos_machine.specs.declared.object.Object.{Object}
use Rattle.nomos_typed.specs.Messages.{IsMessageTyped}
use Rattle.nomos_typed.specs.Telling.{Tells}
use Rattle.nomos_typed.specs.mirror.ComparedWith.{acceptance_of, amounts_in}
use Rattle.nomos_typed.proofs.TellLemmas.{tells-plain}
use Rattle.nomos_typed.proofs.message_types.is_typed_message.Goals as goal

pub returns-in-Message-clause-tells : goal.returns-in-Message-clause-tells
returns-in-Message-clause-tells c =
    let told = c.args.told.now in
    let old = c.args.equalities.now in
    let new = c.message_typed.new.equalities in
    subst (λ (o : Object). IfOk c.message_typed.result
    (Tells (amounts_in told) old.amounts new.amounts (IsMessageTyped (acceptance_of told) told.types.now o)))
    (sym c.in-Message.is) c.message_typed.ensures.tells

pub returns-in-Process-clause-tells : goal.returns-in-Process-clause-tells
returns-in-Process-clause-tells c =
    let told = c.args.told.now in
    let e = c.args.equalities.now in
    subst (λ (o : Object). Tells (amounts_in told) e.amounts e.amounts (IsMessageTyped (acceptance_of told)
    told.types.now o) true)
    (sym c.in-Process.is) (tells-plain (amounts_in told) e.amounts true (λ yes. tt, λ holds. refl))
