use Rattle.std.proofs.Common.{◌∙◌, sym, option_and_then}
use Rattle.nomos_machine.specs.Deeds.{arm_for}
use Rattle.nomos_deeds.specs.SeenObjects.{seen_label}
use Rattle.nomos_deeds.specs.declared.act.Into.TheVariants as into
use Rattle.nomos_deeds.proofs.ReceivingLemmas.{answered, case-same}
use Rattle.nomos_deeds.proofs.receiving.case_at.Goals as goal

pub returns-clause-decides : goal.returns-clause-decides
returns-clause-decides g c a at vs p there stands =
    answered (g.S.Sight.state c.args.sight.now) c.args.pid c.args.channel (into.Nothing) _
    (λ brings. option_and_then (arm_for c.args.arms.now) (seen_label brings)) (case-same c.args.arms.now)
    c.in_ok-message.message
    c.branch_for-next.result c.receives.result c.requires
    (λ q there_q. sym c.in_ok-message.was ∙ c.message_read.ensures q there_q) c.branch_for-next.ensures
    c.receives.ensures.decides a p vs there
