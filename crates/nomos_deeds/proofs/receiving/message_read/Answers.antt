use Rattle.std.proofs.Common.{◌∙◌, sym}
use Rattle.nomos_deeds.proofs.SightLemmas.{read-on}
use Rattle.nomos_deeds.proofs.receiving.message_read.Goals as goal

pub returns : goal.returns
returns g c p there =
    c.message_on.ensures
    ∙ read-on (g.S.Sight.state c.args.sight.now) p c.args.channel c.in_ok-name.name c.comes_to_client.result
    (sym (c.name_on.ensures p there) ∙ c.in_ok-name.was) c.comes_to_client.ensures
