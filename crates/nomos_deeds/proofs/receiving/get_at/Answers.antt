use Rattle.std.proofs.Common.{◌∙◌, sym, cond, Some, None}
use Rattle.nomos_deeds.specs.SeenObjects.{brings_potential}
use Rattle.nomos_deeds.specs.declared.act.Into.TheVariants as into
use Rattle.nomos_deeds.proofs.ReceivingLemmas.{answered, get-same}
use Rattle.nomos_deeds.proofs.receiving.get_at.Goals as goal

pub returns-clause-decides : goal.returns-clause-decides
returns-clause-decides g c a at r vs p there stands =
    answered (g.S.Sight.state c.args.sight.now) c.args.pid c.args.channel (into.Nothing) _
    (λ brings. cond (brings_potential brings) (Some c.args.next) None) (get-same c.args.next) c.in_ok-message.message
    c.after_potential-next.result c.receives.result c.requires
    (λ q there_q. sym c.in_ok-message.was ∙ c.message_read.ensures q there_q) c.after_potential-next.ensures
    c.receives.ensures.decides a p vs there
