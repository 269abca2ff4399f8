use Rattle.std.proofs.Common.{◌≡◌, ◌∙◌, ap, sym}
use Rattle.nomos_deeds.specs.declared.sight.SeenMessage.{SeenMessage}
use Rattle.nomos_machine.specs.Change.{changed}
use Rattle.nomos_machine.specs.Hearing.{hears}
use Rattle.nomos_machine.specs.declared.object.Message.{Message}
use Rattle.nomos_changes.proofs.HearingLemmas.{listened-is, paid-fits}
use Rattle.nomos_changes.proofs.MadeLemmas.{one-some}
use Rattle.nomos_changes.proofs.talking.listen.Goals as goal

pub pay_in-requires-clause-fits : goal.pay_in-requires-clause-fits
pay_in-requires-clause-fits g c =
    let there = c.requires.there in
    paid-fits (g.P.Sight.state c.args.parts.now) (g.P.Sight.state c.leave.new.self) c.args.seen.number c.args.account
    c.message_purse-purse.result there.message c.requires.gas c.requires.account there.found
    (c.message_purse-purse.ensures there.message there.found) c.leave.ensures.state

pub returns-clause-state : goal.returns-clause-state
returns-clause-state g c m found =
    let s = g.P.Sight.state c.args.parts.now in
    let there = c.requires.there in
    let same : there.message ≡ m = one-some there.message m (sym there.found ∙ found) in
    listened-is s (g.P.Sight.state c.leave.new.self) (g.P.Sight.state c.pay_in.new.self)
    (g.P.Sight.state c.go_on_outside.new.parts) (g.P.Sight.state c.tidy.new.self) there.message c.args.seen.number
    c.message_purse-purse.result c.args.name c.args.account c.args.seen.next
    (ap (λ (x : SeenMessage). x.number) there.is) (c.message_purse-purse.ensures there.message there.found)
    (sym there.read) (ap (λ (x : SeenMessage). x.next) there.is) c.leave.ensures.state c.pay_in.ensures.state
    c.go_on_outside.ensures.state c.tidy.ensures.state
    ∙ ap (λ (n : Message). changed s (hears s n c.args.account)) same
