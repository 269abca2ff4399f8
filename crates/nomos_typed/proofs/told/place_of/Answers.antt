use Rattle.std.proofs.Common.{ℕ, rules}
use Rattle.std.proofs.lemmas.Fn.{always_returns_same}
use Rattle.nomos_ir.specs.declared.ids.TypeId.{TypeId}
use Rattle.nomos_typed.proofs.NameLemmas.{place-found}
use Rattle.nomos_typed.proofs.told.place_of.Goals as goal

pub returns : goal.returns
returns c =
    place-found c.args.name c.args.types.now c.binary_search_by_key.result c.requires
    c.binary_search_by_key.ensures.bound
    (c.binary_search_by_key.ensures.position (λ (e : ℕ × TypeId). e.0) (always_returns_same _ _ _
    (λ a r f k. search rules)))
