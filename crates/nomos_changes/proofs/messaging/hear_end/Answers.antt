use Rattle.std.proofs.Common.{◌≡◌, ◌∙◌, ◌+◌, ◌<◌, ◌^◌, ℕ, sym, ap, refl, subst}
use Rattle.nomos_machine.specs.Revised.{richer, standing_at, without_channel}
use Rattle.nomos_machine.specs.State.{process_at}
use Rattle.nomos_changes.specs.SmallChanges.{with_process, without_object}
use Rattle.nomos_changes.proofs.BecomesLemmas.{becomes-next, fields-end, seen-is}
use Rattle.nomos_changes.proofs.messaging.hear_end.Goals as goal

pub returns-clause-state : goal.returns-clause-state
returns-clause-state g c p m there message fits =
    let s = g.P.Sight.state c.args.parts.now in
    let pid = c.args.pid in
    let left = without_channel c.args.v p in
    let purse : c.message_purse-purse.result ≡ m.purse = c.message_purse-purse.ensures m message in
    let seen = seen-is (process_at s pid) p c.in-Some.process c.in-Some.ensures there in
    let earned = c.earning.ensures p seen (subst (λ (n : ℕ). p.purse + n < 2 ^ 128) (sym purse) fits) in
    let q = richer c.message_purse-purse.result (standing_at c.args.next left) in
    let unbound = g.P.Sight.state c.unbind_channel.new.self in
    let written = g.P.Sight.state c.set_fields.new.self in
    let becomes = becomes-next s unbound written pid p left q there refl (c.unbind_channel.ensures.state p there)
    (λ at. fields-end unbound written pid left q c.going_on.result at
    (c.going_on.ensures (richer c.message_purse-purse.result p) earned) refl refl c.set_fields.ensures.state) in
    c.leave.ensures.state
    ∙ ap (without_object c.args.message)
    (becomes ∙ ap (λ (n : ℕ). with_process pid (richer n (standing_at c.args.next left)) s) purse)
