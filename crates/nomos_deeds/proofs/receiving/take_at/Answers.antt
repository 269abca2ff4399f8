use Rattle.std.proofs.Common.{◌∙◌, sym, cond, Some, None}
use Rattle.nomos_deeds.specs.SeenObjects.{brings_value}
use Rattle.nomos_deeds.specs.declared.act.Into.TheVariants as into
use Rattle.nomos_deeds.proofs.ReceivingLemmas.{answered, take-same}
use Rattle.nomos_deeds.proofs.receiving.take_at.Goals as goal

pub returns : goal.returns
returns g c a at vs p there stands =
    answered (g.S.Sight.state c.args.sight.now) c.args.pid c.args.channel (into.Value c.args.variable) _
    (λ brings. cond (brings_value brings) (Some c.args.next) None) (take-same c.args.variable c.args.next)
    c.in_ok-message.message
    c.after_value-next.result c.receives.result c.requires
    (λ q there_q. sym c.in_ok-message.was ∙ c.message_read.ensures q there_q) c.after_value-next.ensures
    c.receives.ensures.decides a p vs there
