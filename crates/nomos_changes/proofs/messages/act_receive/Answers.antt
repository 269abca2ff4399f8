use Rattle.std.proofs.Common.{◌≡◌, ◌∙◌, ◌+◌, ◌<◌, ◌^◌, sym, subst}
use Rattle.nomos_deeds.specs.declared.act.Act.TheVariants as act
use Rattle.nomos_machine.specs.Revised.{standing_at, under_name}
use Rattle.nomos_changes.proofs.BecomesLemmas.{on_ok}
use Rattle.nomos_changes.proofs.MadeLemmas.{can-acts}
use Rattle.nomos_changes.proofs.MessageLemmas.{taken-purse, under-purse}
use Rattle.nomos_changes.proofs.SendActLemmas.{purses-fit, received-is, takes-made}
use Rattle.nomos_changes.proofs.messages.act_receive.Goals as goal

pub returns-clause-ok : goal.returns-clause-ok
returns-clause-ok g c a vs can =
    let s = g.P.Sight.state c.args.parts.now in
    let pid = c.args.pid in
    let receive = c.args.receive in
    let acts = can-acts a s pid vs (act.Receive receive) can in
    let p = acts.process in
    let got = received-is a s p receive.channel receive.message receive.into receive.next vs acts.change acts.changes in
    let q = got.becomes in
    let m = got.message in
    let purse : q.purse ≡ p.purse =
    taken-purse receive.into m.payload (under_name receive.channel got.name p) q got.takes_in
    ∙ under-purse receive.channel got.name p in
    let fits : q.purse + m.purse < 2 ^ 128 =
    subst (λ n. n + m.purse < 2 ^ 128) (sym purse) (purses-fit s pid receive.message p m can.gas acts.there got.found)
    in
    on_ok c.receive_message.result
    (λ is. is
    ∙ takes-made a s p m pid receive.message (standing_at receive.next q) acts.change acts.number got.found got.is
    ∙ sym acts.makes)
    (c.receive_message.ensures.ok p q m got.name acts.there got.found got.named got.takes_in fits)
