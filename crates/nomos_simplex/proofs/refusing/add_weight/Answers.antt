use Rattle.std.proofs.Common.{ap, sym, ◌∙◌}
use Rattle.std.specs.Prelude.{insert}
use Rattle.nomos_simplex.specs.Exits.{with_weight}
use Rattle.nomos_simplex.proofs.WeightLemmas.{with_weight_is}
use Rattle.nomos_simplex.proofs.refusing.add_weight.Goals as goal

pub returns : goal.returns
returns c =
    let w = c.args.weight in
    let place = c.place_of-place in
    let is = c.deref.ensures.value in
    c.in_ok-insert.ensures.items ∙ (λ p. insert (sym is p) place.result w)
    ∙ with_weight_is w c.deref.result.now place.result place.ensures.within place.ensures.before
    place.ensures.there ∙ ap (with_weight w) is
