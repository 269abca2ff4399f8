use Rattle.nomos_changes.proofs.SayingLemmas.{spoken-is}
use Rattle.nomos_changes.proofs.talking.speak.Goals as goal

pub returns-clause-ok : goal.returns-clause-ok
returns-clause-ok g c =
    let turn = c.args.turn in
    spoken-is (g.P.Sight.state c.args.parts.now) (g.P.Sight.state c.come_message.new.self)
    (g.P.Sight.state c.come_name.new.self) (g.P.Sight.state c.pay_out.new.self)
    (g.P.Sight.state c.rename_outside.new.self) (g.P.Sight.state c.tidy.new.self) turn.name c.next_number.result
    c.fresh_name-next.result c.from.result c.from-2.result turn.way.gas turn.account c.args.payload turn.way.goes
    c.next_number.ensures c.fresh_name-next.ensures c.from.ensures c.from-2.ensures c.in_ok-come_message.ensures.ok
    c.come_name.ensures.state c.pay_out.ensures.state c.rename_outside.ensures.state c.tidy.ensures.state
