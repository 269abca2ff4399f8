use Rattle.std.proofs.Common.{◌≡◌, ◌↔◌, ℕ, IsTrue, Bool, Option, IfOk, IfSome, sym, subst}
use Rattle.std.proofs.lemmas.Result.{IfOk-weaker}
use Rattle.nomos_ir.specs.declared.ids.TypeId.{TypeId}
use Rattle.nomos_ir.specs.declared.amount.Amount.{Amount}
use Rattle.nomos_types.specs.Acceptance.{IsAmountOf}
use Rattle.nomos_machine.specs.declared.object.Payload.{Payload}
use Rattle.nomos_machine.specs.declared.object.Payload.TheVariants as payload
use Rattle.nomos_typed.specs.Telling.{Tells}
use Rattle.nomos_typed.specs.mirror.MessageHeads.{KindFits, AmountFits, PayloadFits, SentFits, sent_by}
use Rattle.nomos_typed.specs.mirror.ComparedWith.{IsTypeIn, amounts_in, program_of}
use Rattle.nomos_typed.proofs.HeadLemmas.{sent-in, due-in}
use Rattle.nomos_typed.proofs.TellLemmas.{tells-plain, tells-same, unpaid-exact}
use Rattle.nomos_typed.proofs.message_types.payload_fits.Goals as goal

pub returns-in-Label-clause-tells : goal.returns-in-Label-clause-tells
returns-in-Label-clause-tells c =
    let told = c.args.told.now in
    let m = c.args.message.now in
    let e = c.args.equalities.now in
    let yes = c.if_unpaid.result in
    subst (λ (p : Payload). Tells (amounts_in told) e.amounts e.amounts (PayloadFits told m.to_client c.args.head.now
    p m.purse) yes)
    (sym c.in-Label.is) (tells-plain (amounts_in told) e.amounts yes (unpaid-exact c.if_unpaid.ensures
    c.label_fits.ensures))

pub returns-in-Close-clause-tells : goal.returns-in-Close-clause-tells
returns-in-Close-clause-tells c =
    let told = c.args.told.now in
    let m = c.args.message.now in
    let e = c.args.equalities.now in
    let yes = c.if_unpaid-in-Close.result in
    subst (λ (p : Payload). Tells (amounts_in told) e.amounts e.amounts (PayloadFits told m.to_client c.args.head.now
    p m.purse) yes)
    (sym c.in-Close.is) (tells-plain (amounts_in told) e.amounts yes (unpaid-exact c.if_unpaid-in-Close.ensures
    c.is_end.ensures))

pub returns-in-Pay-clause-tells : goal.returns-in-Pay-clause-tells
returns-in-Pay-clause-tells c =
    let told = c.args.told.now in
    let m = c.args.message.now in
    let e = c.args.equalities.now in
    let yes = c.amount_fits.result in
    let exact = subst (λ o. IsTrue yes ↔ AmountFits told o m.purse) c.due_by.ensures c.amount_fits.ensures in
    subst (λ (p : Payload). Tells (amounts_in told) e.amounts e.amounts (PayloadFits told m.to_client c.args.head.now
    p m.purse) yes)
    (sym c.in-Pay.is) (tells-plain (amounts_in told) e.amounts yes exact)

pub returns-in-Value-clause-tells : goal.returns-in-Value-clause-tells
returns-in-Value-clause-tells c =
    let told = c.args.told.now in
    let m = c.args.message.now in
    let e = c.args.equalities.now in
    let yes = c.if_unpaid-in-Value.result in
    let exact = subst (λ o. IsTrue c.kind_fits-fits.result ↔ KindFits o c.in-Value.value) c.kind_by.ensures
    c.kind_fits-fits.ensures in
    subst (λ (p : Payload). Tells (amounts_in told) e.amounts e.amounts (PayloadFits told m.to_client c.args.head.now
    p m.purse) yes)
    (sym c.in-Value.is) (tells-plain (amounts_in told) e.amounts yes (unpaid-exact c.if_unpaid-in-Value.ensures exact))

pub sent_fits-requires-clause-sent : goal.sent_fits-requires-clause-sent
sent_fits-requires-clause-sent c =
    let told = c.args.told.now in
    let (s, there) = c.requires.head in
    subst (λ (o : Option TypeId). IfSome o (IsTypeIn told)) (sym c.sent_by.ensures)
    (sent-in c.know.ensures.accepted.is_program s c.args.head.now there c.args.message.now.to_client)

pub amount_fits-requires : goal.amount_fits-requires
amount_fits-requires c =
    let told = c.args.told.now in
    let (s, there) = c.requires.head in
    record {
      due =
          subst (λ (o : Option Amount). IfSome o (IsAmountOf (program_of told))) (sym c.due_by.ensures)
          (due-in c.know.ensures.accepted.is_program s c.args.head.now there
          c.args.message.now.to_client);
    }

pub returns-then-message-eq0-clause-tells : goal.returns-then-message-eq0-clause-tells
returns-then-message-eq0-clause-tells c =
    let told = c.args.told.now in
    let x = amounts_in told in
    let m = c.args.message.now in
    let head = c.args.head.now in
    let old = c.args.equalities.now in
    let new = c.sent_fits.new.equalities in
    let name : ℕ = c.in-Channel.name in
    let unpaid : m.purse ≡ 0 = c.if-message-eq0.true in
    let Sent : Option TypeId → Type 0 = λ o. SentFits told o name in
    let exact : Sent (sent_by m.to_client head) ↔ PayloadFits told m.to_client head (payload.Channel name) m.purse =
    (λ fits. (unpaid, fits), λ both. both.1) in
    let tells = subst (λ (o : Option TypeId). IfOk c.sent_fits.result (Tells x old.amounts new.amounts (Sent o)))
    c.sent_by.ensures c.sent_fits.ensures.tells in
    subst (λ (p : Payload). IfOk c.sent_fits.result
    (Tells x old.amounts new.amounts (PayloadFits told m.to_client head p m.purse))) (sym c.in-Channel.is)
    (IfOk-weaker c.sent_fits.result (Tells x old.amounts new.amounts (Sent (sent_by m.to_client head)))
    (Tells x old.amounts new.amounts (PayloadFits told m.to_client head (payload.Channel name) m.purse))
    (λ (yes : Bool) (first : Tells x old.amounts new.amounts (Sent (sent_by m.to_client head)) yes).
    tells-same x old.amounts new.amounts yes exact first) tells)
