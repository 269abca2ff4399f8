use Rattle.std.proofs.Common.{◌∙◌, sym, ap, option_copied}
use Rattle.nomos_deeds.proofs.SharingLemmas.{released}
use Rattle.nomos_deeds.proofs.sharing.release_at.Goals as goal

pub returns-clause-decides : goal.returns-clause-decides
returns-clause-decides g c at vs p there stands =
    released c.args.accepted.now (g.S.Sight.state c.args.sight.now) p vs at c.in_ok-name.name c.in_ok-other.other
    c.in_ok-code_at.field-0.now c.in_ok-onward.onward c.args.next c.requires
    (sym c.in_ok-other.was ∙ c.offering.ensures)
    (sym c.code_at.ensures.found ∙ ap option_copied c.in_ok-code_at.was) c.args.pid c.args.variables.0
    c.args.variables.1 c.in_ok-shared.shared there stands (sym (c.channel.ensures p there) ∙ c.in_ok-name.was)
    (sym c.detach_next.ensures ∙ c.in_ok-onward.was) c.in_ok-shared.was
