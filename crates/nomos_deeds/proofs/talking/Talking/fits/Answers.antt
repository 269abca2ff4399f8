use Rattle.std.proofs.Common.{◌∙◌, sym}
use Rattle.nomos_deeds.proofs.WayLemmas.{fits-none}
use Rattle.nomos_deeds.proofs.talking.Talking.fits.Goals as goal

pub returns-in-None : goal.returns-in-None
returns-in-None g c =
    fits-none c.args.accepted.now (g.Self.Sight.state c.args.self.now) c.in-Some.name c.args.said.now
    (sym c.outside.ensures ∙ c.in-Some.is) c.in-None.ensures
