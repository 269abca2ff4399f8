use Rattle.std.proofs.Common.{rules, ◌≡◌, ◌∙◌, ℕ, Some, ap, sym}
use Rattle.nomos_deeds.specs.SeenObjects.{seen_process}
use Rattle.nomos_deeds.specs.declared.sight.SeenProcess.{SeenProcess}
use Rattle.nomos_machine.specs.Revised.{poorer, standing_at, under_name}
use Rattle.nomos_machine.specs.Sight.{is_own}
use Rattle.nomos_machine.specs.State.{State, process_at}
use Rattle.nomos_machine.specs.declared.object.Object.TheVariants as object
use Rattle.nomos_machine.proofs.PreservationLaws.{process_at-there}
use Rattle.nomos_changes.specs.PlainFields.{provides_under, uses_under}
use Rattle.nomos_changes.specs.Sendings.{after_sending, gas_of_sending, handing_over, message_sent, with_sent}
use Rattle.nomos_changes.specs.SmallChanges.{with_process}
use Rattle.nomos_changes.proofs.BecomesLemmas.{becomes-next, fields-end, seen-is}
use Rattle.nomos_changes.proofs.MessageLemmas.{uses-pid, handing-pid, send-seen, send-written, sending-pid, under-pid}
use Rattle.nomos_changes.proofs.BehindLemmas.{stays-before}
use Rattle.nomos_changes.proofs.messaging.send_message.Goals as goal

pub returns-clause-ok : goal.returns-clause-ok
returns-clause-ok g c p from there named =
    let s = g.P.Sight.state c.args.parts.now in
    let send = c.args.send in
    let pid = c.args.pid in
    let own = is_own send.channel in
    let gas = gas_of_sending send.sending in
    let came = g.P.Sight.state c.come.new.parts in
    let looked = c.in-Some.seen in
    let seen = seen-is (process_at s pid) p looked c.in-Some.ensures there in
    let number : looked.pid ≡ pid = ap (λ (x : SeenProcess). x.pid) seen ∙ (process_at-there s pid p there).1 in
    let found : c.name_on.result ≡ Some from = c.name_on.ensures p (ap (process_at s) number ∙ there) seen ∙ named in
    let on : c.unwrap_or-from.result ≡ from = search rules in
    let comes : came ≡ with_sent own from c.args.payload gas send.goes s =
    c.in_ok-come.ensures.ok ∙ ap (λ (n : ℕ). with_sent own n c.args.payload gas send.goes s) on in
    let message = object.Message (message_sent s own from c.args.payload gas) in
    let stands : process_at came pid ≡ Some p =
    ap (λ (s : State). process_at s pid) comes ∙ stays-before s pid p message there in
    let name = c.fresh_name-name.result in
    let handed = handing_over send.sending p in
    let bound = uses_under send.channel name handed in
    let sender = after_sending send.sending p in
    let q = standing_at send.next (under_name send.channel name sender) in
    let over = g.P.Sight.state c.hand_over.new.parts in
    let under = g.P.Sight.state c.go_under.new.parts in
    let written = g.P.Sight.state c.set_fields.new.self in
    let rebinds : under ≡ with_process pid bound came =
    becomes-next came over under pid p handed bound stands (handing-pid send.sending p)
    (c.hand_over.ensures.state p stands) (λ at. c.go_under.ensures.state handed at) in
    let spent : c.spending-spent.result ≡ seen_process (poorer gas p) =
    c.spending-spent.ensures p seen ∙ ap (λ (n : ℕ). seen_process (poorer n p)) c.gas_of.ensures in
    let goes = c.going_under.ensures (poorer gas p) spent in
    let fields : c.going_on.result ≡ seen_process q =
    c.going_on.ensures (provides_under send.channel name (poorer gas p)) goes
    ∙ send-seen send.sending send.channel name send.next p in
    becomes-next came under written pid p bound q stands
    (uses-pid send.channel name handed ∙ handing-pid send.sending p) rebinds
    (λ at. fields-end under written pid bound q c.going_on.result at fields
    (under-pid send.channel name sender ∙ sending-pid send.sending p
    ∙ sym (uses-pid send.channel name handed ∙ handing-pid send.sending p))
    (send-written send.sending send.channel name send.next p) c.set_fields.ensures.state)
    ∙ ap (λ (n : ℕ). with_process pid (standing_at send.next (under_name send.channel n sender)) came)
    c.fresh_name-name.ensures
    ∙ ap (with_process pid (standing_at send.next (under_name send.channel s.next_name sender))) comes
