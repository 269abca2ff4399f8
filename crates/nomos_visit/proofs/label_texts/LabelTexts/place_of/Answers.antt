-- The place that is found, or the number of labels.
use Rattle.std.proofs.Common.{◌∙◌, Bor, List, ℕ, ap, unwrap_or}
use Rattle.std.specs.List.{position_or_len}
use Rattle.std.specs.Str.{bytes_eq}
use Rattle.nomos_visit.proofs.LabelLemmas.{place-of_text, place_or_len}
use Rattle.nomos_visit.proofs.label_texts.LabelTexts.place_of.Goals as goal

pub returns : goal.returns
returns c =
    c.unwrap_or.ensures
    ∙ (λ i. unwrap_or (c.get_index_of.ensures.index i) (c.len.ensures.len i))
    ∙ place_or_len _ c.self.inside.texts.keys
    ∙ place-of_text (λ (n : Bor (List ℕ)). n.now) c.args.name.now c.self.inside.texts.keys
    ∙ ap (λ (texts : List (List ℕ)). position_or_len (λ m. bytes_eq m c.args.name.now) texts) c.self.view_is
