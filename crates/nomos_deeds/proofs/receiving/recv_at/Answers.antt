use Rattle.std.proofs.Common.{◌∙◌, sym}
use Rattle.std.specs.Option.{option_map}
use Rattle.nomos_deeds.specs.SeenObjects.{seen_channel}
use Rattle.nomos_deeds.specs.declared.act.Into.TheVariants as into
use Rattle.nomos_deeds.proofs.ReceivingLemmas.{answered, recv-same}
use Rattle.nomos_deeds.proofs.receiving.recv_at.Goals as goal

pub returns-clause-decides : goal.returns-clause-decides
returns-clause-decides g c a at vs p there stands =
    answered (g.S.Sight.state c.args.sight.now) c.args.pid c.args.channel (into.Channel c.args.variable) _
    (λ brings. option_map (λ name. c.args.next) (seen_channel brings)) (recv-same c.args.variable c.args.next)
    c.in_ok-message.message
    c.after_channel-next.result c.receives.result c.requires
    (λ q there_q. sym c.in_ok-message.was ∙ c.message_read.ensures q there_q) c.after_channel-next.ensures
    c.receives.ensures.decides a p vs there
