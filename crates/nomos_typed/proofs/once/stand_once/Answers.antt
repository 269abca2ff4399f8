-- Sorted numbers are the first ones exactly where each stands as often.
use Rattle.std.proofs.Common.{◌≡◌, ℕ, List, ap, sym, ◌∙◌}
use Rattle.std.proofs.lemmas.List.Sorted.{IsNonDecreasingBy-from_sort}
use Rattle.std.proofs.lemmas.Slice.Eq.{bytes_eq-Decides}
use Rattle.nomos_ir.specs.Order.{count_of}
use Rattle.nomos_typed.proofs.CountLemmas.{permuted-counts, rises-sorted, same-counts}
use Rattle.nomos_typed.proofs.once.stand_once.Goals as goal

pub returns : goal.returns
returns c =
    let found : List ℕ = c.args.found.items in
    let sorted : List ℕ = c.sort_unstable.new.self.items in
    let numbers : List ℕ = c.args.numbers.now in
    let value = c.as_slice.ensures.value in
    let rises = rises-sorted sorted (IsNonDecreasingBy-from_sort (λ n. n) sorted c.sort_unstable.ensures.sorted) in
    let counts : (n : ℕ) → count_of n sorted ≡ count_of n found =
    permuted-counts found sorted c.sort_unstable.ensures.permutation in
    let decides = bytes_eq-Decides c.as_slice.result.now numbers in (
      λ yes n.
          let same : sorted ≡ numbers = sym value ∙ decides.0 (sym c.eq.ensures ∙ yes) in
          sym (counts n) ∙ ap (count_of n) same,
      λ each.
          let same : sorted ≡ numbers = same-counts sorted numbers rises c.requires (λ n. counts n ∙ each n) in
          c.eq.ensures ∙ decides.1 (value ∙ same),
    )
