use Rattle.std.proofs.Common.{◌∙◌, sym}
use Rattle.nomos_deeds.proofs.ReceivingLemmas.{wait-answered}
use Rattle.nomos_deeds.proofs.receiving.wait_at.Goals as goal

pub returns-clause-decides : goal.returns-clause-decides
returns-clause-decides g c a at vs p there stands =
    wait-answered (g.S.Sight.state c.args.sight.now) c.args.pid c.args.variable c.args.next c.in_ok-message.message
    c.hears.result c.requires
    (λ q there_q. sym c.in_ok-message.was ∙ c.message_read.ensures q there_q) c.hears.ensures.decides a p vs there
