use Rattle.std.proofs.Common.{rules}
use Rattle.std.proofs.lemmas.Fn.{always_returns_same}
use Rattle.nomos_places.specs.declared.place.Place.{Place}
use Rattle.nomos_places.proofs.FoundLemmas.{found-at, found-nowhere}
use Rattle.nomos_places.proofs.found_places.find.Goals as goal

pub returns-in-Ok : goal.returns-in-Ok
returns-in-Ok c = (
  c.in-Ok.ensures.bound,
  λ p.
      found-at c.args.code c.args.places.now c.in-Ok.at p
      (c.in-Ok.ensures.position (λ (q : Place). q.code.0) (always_returns_same _ _ _ (λ a r f k. search rules))),
)

pub returns-in-Err : goal.returns-in-Err
returns-in-Err c =
    found-nowhere c.args.code c.args.places.now c.in-Err.field-0 c.requires c.in-Err.ensures.bound
    (c.in-Err.ensures.position (λ (q : Place). q.code.0) (always_returns_same _ _ _ (λ a r f k. search rules)))
