use Rattle.std.proofs.Common.{Option, IfOk, sym, subst}
use Rattle.nomos_ir.specs.declared.ids.TypeId.{TypeId}
use Rattle.nomos_typed.specs.Telling.{Tells}
use Rattle.nomos_typed.specs.mirror.MessageHeads.{SentFits}
use Rattle.nomos_typed.specs.mirror.ComparedWith.{amounts_in}
use Rattle.nomos_typed.proofs.message_types.sent_fits.Goals as goal

pub returns-in-Some-clause-tells : goal.returns-in-Some-clause-tells
returns-in-Some-clause-tells c =
    let told = c.args.told.now in
    let old = c.args.equalities.now in
    let new = c.has_type.new.equalities in
    subst (λ (o : Option TypeId). IfOk c.has_type.result (Tells (amounts_in told) old.amounts new.amounts (SentFits
    told o c.args.name)))
    (sym c.in-Some.is) c.has_type.ensures.tells
