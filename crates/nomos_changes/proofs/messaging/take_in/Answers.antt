use Rattle.std.proofs.Common.{◌∙◌, sym, ap, refl}
use Rattle.nomos_deeds.specs.Acts.{taken}
use Rattle.nomos_deeds.specs.SeenObjects.{seen_channel}
use Rattle.nomos_deeds.specs.declared.act.Into.{Into}
use Rattle.nomos_deeds.specs.declared.sight.SeenPayload.{SeenPayload}
use Rattle.nomos_machine.specs.Revised.{with_channel, with_value}
use Rattle.nomos_machine.specs.declared.object.Process.{Process}
use Rattle.nomos_changes.specs.PlainFields.{uses_under}
use Rattle.nomos_changes.specs.SmallChanges.{with_process}
use Rattle.nomos_changes.proofs.BecomesLemmas.{becomes-next, becomes-then}
use Rattle.nomos_changes.proofs.MessageLemmas.{taken-channel, taken-value, uses-pid, value-under}
use Rattle.nomos_changes.proofs.messaging.take_in.Goals as goal

pub returns-in-Channel-clause-ok : goal.returns-in-Channel-clause-ok
returns-in-Channel-clause-ok g c p q m there message seen takes =
    let s = g.P.Sight.state c.args.parts.now in
    let pid = c.args.pid in
    let channel = c.args.receive.channel in
    let under = uses_under channel c.args.seen.0 p in
    let took = taken-channel c.in-Channel.v m.payload under q
    (ap (λ (where_to : Into). taken where_to m.payload under) (sym c.in-Channel.is) ∙ takes) in
    becomes-next s (g.P.Sight.state c.go_under-in-Channel.new.parts) (g.P.Sight.state c.take_channel.new.parts) pid p
    under (with_channel c.in-Channel.v took.0 under) there (uses-pid channel c.args.seen.0 p)
    (c.go_under-in-Channel.ensures.state p there)
    (λ at. c.take_channel.ensures.state under took.0 at (ap (λ (x : SeenPayload). seen_channel x) seen ∙ took.1))
    ∙ ap (λ (q : Process). with_process pid q s) took.2

pub returns-in_ok-take_value-in-Value-clause-ok : goal.returns-in_ok-take_value-in-Value-clause-ok
returns-in_ok-take_value-in-Value-clause-ok g c p q m there message seen takes =
    let s = g.P.Sight.state c.args.parts.now in
    let pid = c.args.pid in
    let channel = c.args.receive.channel in
    let name = c.args.seen.0 in
    let v = c.in-Value.v in
    let under = uses_under channel name p in
    let took = taken-value v m.payload under q
    (ap (λ (where_to : Into). taken where_to m.payload under) (sym c.in-Value.is) ∙ takes) in
    becomes-then s (g.P.Sight.state c.take_value.new.parts) (g.P.Sight.state c.go_under-in-Value.new.parts) pid p
    (with_value v took.0 p) (uses_under channel name) there refl
    (c.in_ok-take_value-in-Value.ensures.ok p m took.0 there message took.1) c.go_under-in-Value.ensures.state
    ∙ ap (λ (q : Process). with_process pid q s) (value-under channel name v took.0 p ∙ took.2)
