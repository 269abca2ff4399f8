use Rattle.std.proofs.Common.{◌∙◌, map, ℕ, List, ap}
use Rattle.nomos_ir.specs.declared.ids.TypeId.{TypeId}
use Rattle.nomos_typed.specs.declared.tie.Tie.TheVariants as tie
use Rattle.nomos_typed.specs.mirror.Ties.{all_tied}
use Rattle.nomos_typed.proofs.TieLemmas.{mentioned-exact}
use Rattle.nomos_typed.proofs.owning.are_names_mentioned.Goals as goal

pub returns : goal.returns
returns c =
    let state = c.args.state.now in
    let keys : List (ℕ × TypeId) → List ℕ = map (λ (t : ℕ × TypeId). t.0) in
    let left = c.in_ok-mentions.ensures ∙ ap (all_tied tie.Mentions) c.as_slice.ensures in
    let right = c.as_slice-3.ensures.value ∙ c.in_ok-names.ensures ∙ ap keys c.as_slice-2.ensures in
    let exact = mentioned-exact state c.in_ok-mentions.mentions.items c.as_slice-3.result.now c.requires.ordered.table
    left right in
    (λ yes. exact.0 (c.are_numbers.ensures.0 yes), λ are. c.are_numbers.ensures.1 (exact.1 are))
