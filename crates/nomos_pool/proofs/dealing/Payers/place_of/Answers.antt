use Rattle.std.proofs.Common.{◌∙◌, List, ℕ, Bor, ap, unwrap_or}
use Rattle.std.specs.List.{position_or_len}
use Rattle.std.specs.Str.{bytes_eq}
use Rattle.nomos_pool.proofs.DealingLemmas.{place-of_text, place_or_len}
use Rattle.nomos_pool.proofs.dealing.Payers.place_of.Goals as goal

pub returns : goal.returns
returns c =
    c.unwrap_or.ensures
    ∙ (λ i. unwrap_or (c.get_index_of.ensures.index i) (c.len.ensures.len i))
    ∙ place_or_len _ c.self.inside.names.keys
    ∙ place-of_text (λ (n : Bor (List ℕ)). n.now) c.args.name.now c.self.inside.names.keys
    ∙ ap (λ (names : List (List ℕ)). position_or_len (λ m. bytes_eq m c.args.name.now) names) c.self.view_is
