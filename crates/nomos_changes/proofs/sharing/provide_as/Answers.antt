use Rattle.std.proofs.Common.{refl}
use Rattle.nomos_deeds.specs.declared.sight.SeenProcess.{SeenProcess}
use Rattle.nomos_changes.specs.Providers.{provides_as}
use Rattle.nomos_changes.proofs.BecomesLemmas.{fields-become}
use Rattle.nomos_changes.proofs.sharing.provide_as.Goals as goal

pub returns-in-Some-clause-state : goal.returns-in-Some-clause-state
returns-in-Some-clause-state g c p there =
    let provider = c.args.provider in
    fields-become (g.P.Sight.state c.args.parts.now) (g.P.Sight.state c.set_fields.new.self) c.args.number p
    (provides_as provider p)
    (λ (x : SeenProcess). record x {
      mode = provider.mode;
      code = provider.code;
      offers = provider.offers;
      base = provider.base;
    }) c.in-Some.seen _ there c.in-Some.ensures refl refl refl c.set_fields.ensures.state
