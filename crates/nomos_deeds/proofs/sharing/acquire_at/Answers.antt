use Rattle.std.proofs.Common.{◌∙◌, sym, ap, option_copied}
use Rattle.nomos_deeds.proofs.SharingLemmas.{acquired}
use Rattle.nomos_deeds.proofs.sharing.acquire_at.Goals as goal

pub returns-clause-decides : goal.returns-clause-decides
returns-clause-decides g c at vs p there stands =
    acquired c.args.accepted.now (g.S.Sight.state c.args.sight.now) p vs at c.in_ok-shared.shared c.in_ok-other.other
    c.in_ok-code_at.field-0.now c.in_ok-onward.onward c.args.next c.requires
    (sym c.in_ok-other.was ∙ c.offering.ensures)
    (sym c.code_at.ensures.found ∙ ap option_copied c.in_ok-code_at.was) c.args.pid c.args.variables.0
    c.args.variables.1
    c.in_ok-node_of.field-0.now c.in_ok-goes.goes there stands (sym (c.channel.ensures p there) ∙ c.in_ok-shared.was)
    (sym c.accept_next.ensures ∙ c.in_ok-onward.was)
    (sym c.node_of.ensures ∙ ap option_copied c.in_ok-node_of.was) (sym c.after_acquire.ensures ∙ c.in_ok-goes.was)
