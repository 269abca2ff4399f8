use Rattle.std.proofs.Common.{◌≡◌, ◌∙◌, Some, None, sym, ap}
use Rattle.nomos_deeds.specs.declared.act.Act.TheVariants as act
use Rattle.nomos_machine.specs.Revised.{standing_at, under_name}
use Rattle.nomos_machine.specs.Sight.{is_own}
use Rattle.nomos_machine.specs.declared.object.Payload.{Payload}
use Rattle.nomos_changes.specs.Sendings.{after_sending, brought_by, gas_of_sending, with_sent}
use Rattle.nomos_changes.specs.SmallChanges.{with_process}
use Rattle.nomos_changes.proofs.BecomesLemmas.{on_ok}
use Rattle.nomos_changes.proofs.MadeLemmas.{can-acts, one-some}
use Rattle.nomos_changes.proofs.SendActLemmas.{sending-is, sent-made}
use Rattle.nomos_changes.proofs.messages.act_send.Goals as goal

pub returns-in-Some-clause-ok : goal.returns-in-Some-clause-ok
returns-in-Some-clause-ok g c a can =
    let s = g.P.Sight.state c.args.parts.now in
    let send = c.args.send in
    let pid = c.args.pid in
    let acts = can-acts a s pid c.args.values (act.Send send) can in
    let p = acts.process in
    let sent = sending-is a s p send.channel send.goes send.next send.sending c.args.values acts.change acts.changes in
    let told : Some c.in-Some.payload ≡ brought_by send.sending c.args.values =
    sym c.in-Some.is ∙ c.in_ok-payload.ensures in
    let same = one-some c.in-Some.payload sent.brought (told ∙ sent.brings) in
    let gas = gas_of_sending send.sending in
    let sender = after_sending send.sending p in
    let after = standing_at send.next (under_name send.channel s.next_name sender) in
    on_ok c.send_message.result
    (λ is. is
    ∙ ap (λ (brought : Payload). with_process pid after
    (with_sent (is_own send.channel) sent.from brought gas send.goes s)) same
    ∙ sent-made a s p send.channel send.goes send.next sent.brought gas sent.from pid sender acts.change acts.there
    acts.number
    sent.is
    ∙ sym acts.makes)
    (c.send_message.ensures.ok p sent.from acts.there sent.named)

pub returns-in-None-clause-ok : goal.returns-in-None-clause-ok
returns-in-None-clause-ok g c a can =
    let s = g.P.Sight.state c.args.parts.now in
    let send = c.args.send in
    let acts = can-acts a s c.args.pid c.args.values (act.Send send) can in
    let sent = sending-is a s acts.process send.channel send.goes send.next send.sending c.args.values acts.change
    acts.changes in
    let told : None ≡ brought_by send.sending c.args.values = sym c.in-None.is ∙ c.in_ok-payload.ensures in
    let both : None ≡ Some sent.brought = told ∙ sent.brings in
    absurd cc
