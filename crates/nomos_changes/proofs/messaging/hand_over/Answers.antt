use Rattle.std.proofs.Common.{◌∙◌, Bool, ap}
use Rattle.nomos_deeds.specs.declared.act.Sending.{Sending}
use Rattle.nomos_deeds.specs.declared.act.Sending.TheVariants as sending
use Rattle.nomos_changes.specs.Sendings.{handing_over}
use Rattle.nomos_changes.proofs.BecomesLemmas.{stays}
use Rattle.nomos_changes.proofs.messaging.hand_over.Goals as goal

pub returns-else-not-is_reference-clause-state : goal.returns-else-not-is_reference-clause-state
returns-else-not-is_reference-clause-state g c p there =
    stays (g.P.Sight.state c.args.parts.now) c.args.pid p (handing_over c.args.sending p) there
    (ap (λ (what : Sending). handing_over what p) c.in-Channel.is
    ∙ ap (λ (b : Bool). handing_over (sending.Channel c.in-Channel.variable c.in-Channel.name b) p)
    c.if-not-is_reference.false)

pub returns-in-Label-clause-state : goal.returns-in-Label-clause-state
returns-in-Label-clause-state g c p there =
    stays (g.P.Sight.state c.args.parts.now) c.args.pid p (handing_over c.args.sending p) there
    (ap (λ (what : Sending). handing_over what p) c.in-Label.is)

pub returns-in-Value-clause-state : goal.returns-in-Value-clause-state
returns-in-Value-clause-state g c p there =
    stays (g.P.Sight.state c.args.parts.now) c.args.pid p (handing_over c.args.sending p) there
    (ap (λ (what : Sending). handing_over what p) c.in-Value.is)

pub returns-in-Potential-clause-state : goal.returns-in-Potential-clause-state
returns-in-Potential-clause-state g c p there =
    stays (g.P.Sight.state c.args.parts.now) c.args.pid p (handing_over c.args.sending p) there
    (ap (λ (what : Sending). handing_over what p) c.in-Potential.is)
