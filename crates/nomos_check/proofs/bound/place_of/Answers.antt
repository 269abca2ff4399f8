use Rattle.std.proofs.Common.{rules}
use Rattle.std.proofs.lemmas.Fn.{always_returns_same}
use Rattle.nomos_ir.specs.declared.ids.VarId.{VarId}
use Rattle.nomos_check.proofs.PlaceLemmas.{place-found}
use Rattle.nomos_check.proofs.bound.place_of.Goals as goal

pub returns : goal.returns
returns g c =
    place-found c.args.v c.args.pairs.now c.binary_search_by_key.result c.requires c.binary_search_by_key.ensures.bound
    (c.binary_search_by_key.ensures.position (λ (e : VarId × g.row.X.Denot). e.0.0) (always_returns_same _ _ _
    (λ a r f k. search rules)))
