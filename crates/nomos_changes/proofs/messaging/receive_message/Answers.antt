use Rattle.std.proofs.Common.{◌≡◌, ◌∙◌, ◌+◌, ◌<◌, ◌^◌, ℕ, Some, sym, ap, refl, subst}
use Rattle.nomos_deeds.specs.Acts.{message_at, taken}
use Rattle.nomos_deeds.specs.SeenObjects.{seen_process}
use Rattle.nomos_deeds.specs.declared.sight.SeenMessage.{SeenMessage}
use Rattle.nomos_deeds.specs.declared.sight.SeenProcess.{SeenProcess}
use Rattle.nomos_machine.specs.Revised.{richer, standing_at, under_name}
use Rattle.nomos_machine.specs.State.{process_at}
use Rattle.nomos_changes.specs.PlainFields.{provides_under}
use Rattle.nomos_changes.specs.SmallChanges.{with_fields, with_process, without_object}
use Rattle.nomos_changes.proofs.BecomesLemmas.{becomes-next, fields-end, seen-is}
use Rattle.nomos_changes.proofs.MadeLemmas.{one-some}
use Rattle.nomos_changes.proofs.MessageLemmas.{message-seen, receive-seen, taken-purse, taken-rows, taken-seen, under-pid, under-purse}
use Rattle.nomos_changes.proofs.messaging.receive_message.Goals as goal

pub returns-clause-ok : goal.returns-clause-ok
returns-clause-ok g c p q m name there message named takes fits =
    let s = g.P.Sight.state c.args.parts.now in
    let pid = c.args.pid in
    let receive = c.args.receive in
    let channel = receive.channel in
    let into = receive.into in
    let name_there = c.in-Some-next.name in
    let looked = message-seen (message_at s.objects receive.message) m c.in-Some.seen c.in-Some.ensures message in
    let same : name ≡ name_there = one-some name name_there
    (sym named ∙ sym (ap (λ (x : SeenMessage). x.next) looked) ∙ c.in-Some-next.is) in
    let takes_there : taken into m.payload (under_name channel name_there p) ≡ Some q =
    ap (λ (n : ℕ). taken into m.payload (under_name channel n p)) (sym same) ∙ takes in
    let purse : c.message_purse-purse.result ≡ m.purse = c.message_purse-purse.ensures m message in
    let gas = c.message_purse-purse.result in
    let under = under_name channel name_there p in
    let rows = with_fields (seen_process p) q in
    let alike = taken-seen into m.payload under q takes_there in
    let keeps : q.pid ≡ p.pid =
    ap (λ (x : SeenProcess). x.pid) alike ∙ under-pid channel name_there p in
    let own : q.purse ≡ p.purse =
    taken-purse into m.payload under q takes_there ∙ under-purse channel name_there p in
    let earns : p.purse + gas < 2 ^ 128 =
    subst (λ (n : ℕ). n + gas < 2 ^ 128) own (subst (λ (n : ℕ). q.purse + n < 2 ^ 128) (sym purse) fits) in
    let seen = seen-is (process_at s pid) p c.in-Some-process.process c.in-Some-process.ensures there in
    let becomes_then = richer gas (standing_at receive.next q) in
    let fields : c.going_on.result ≡ seen_process becomes_then =
    c.going_on.ensures (provides_under channel name_there (richer gas p))
    (c.going_under.ensures (richer gas p) (c.earning-earned.ensures p seen earns))
    ∙ receive-seen channel name_there gas receive.next p q alike in
    let took = g.P.Sight.state c.take_in.new.parts in
    let written = g.P.Sight.state c.set_fields.new.self in
    let becomes = becomes-next s took written pid p rows becomes_then there keeps
    (c.in_ok-take_in.ensures.ok p rows m there message (ap (λ (x : SeenMessage). x.brings) looked)
    (taken-rows channel name_there into m.payload p q takes_there))
    (λ at. fields-end took written pid rows becomes_then c.going_on.result at fields refl refl
    c.set_fields.ensures.state) in
    c.leave.ensures.state
    ∙ ap (without_object receive.message)
    (becomes ∙ ap (λ (n : ℕ). with_process pid (richer n (standing_at receive.next q)) s) purse)
