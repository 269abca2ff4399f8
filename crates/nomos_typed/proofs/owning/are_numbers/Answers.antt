use Rattle.std.proofs.Common.{◌≡◌, ◌≤◌, ◌∙◌, ◌==◌, ℕ, List, ap, sym, arith}
use Rattle.std.specs.List.{dedup}
use Rattle.std.proofs.lemmas.List.Filters.{dedup_is}
use Rattle.std.proofs.lemmas.List.Kept.{Contains-dedup_nat, Contains-from_dedup}
use Rattle.std.proofs.lemmas.Map.Keys.{IsStrictlyIncreasing-dedup, sorted_from_strictly_increasing}
use Rattle.std.proofs.lemmas.Slice.Eq.{bytes_eq-Decides}
use Rattle.std.specs.List.Sorted.{IsStrictlySortedBy}
use Rattle.std.specs.Ordering.{nat_cmp}
use Rattle.nomos_ir.specs.Order.{count_of}
use Rattle.nomos_types.proofs.OccurrenceLaws.{contained, counted}
use Rattle.nomos_typed.proofs.CountLemmas.{permuted-counts, same-members}
use Rattle.nomos_typed.proofs.owning.are_numbers.Goals as goal

pub returns : goal.returns
returns c =
    let found : List ℕ = c.args.found.items in
    let sorted : List ℕ = c.sort_unstable.new.self.items in
    let numbers : List ℕ = c.args.numbers.now in
    let left : List ℕ = dedup ◌==◌ sorted in
    let is : c.dedup.new.self.items ≡ left = dedup_is _ _ _ c.dedup.ensures.filtered in
    let value : c.as_slice.result.now ≡ left = c.as_slice.ensures.value ∙ is in
    let up : IsStrictlySortedBy nat_cmp left =
    sorted_from_strictly_increasing left (IsStrictlyIncreasing-dedup sorted c.sort_unstable.ensures.sorted) in
    let counts : (n : ℕ) → count_of n sorted ≡ count_of n found =
    permuted-counts found sorted c.sort_unstable.ensures.permutation in
    let kept : (n : ℕ) → 1 ≤ count_of n found → 1 ≤ count_of n left = λ n some.
    counted n left (Contains-dedup_nat sorted n (contained n sorted (omega (arith, some, counts n)))) in
    let there : (n : ℕ) → 1 ≤ count_of n left → 1 ≤ count_of n found = λ n some.
    omega (arith, counts n, counted n sorted (Contains-from_dedup _ sorted n (contained n left some))) in
    let decides = bytes_eq-Decides c.as_slice.result.now numbers in (
      λ yes n.
          let same : left ≡ numbers = sym value ∙ decides.0 (sym c.eq.ensures ∙ yes) in
          let at : count_of n left ≡ count_of n numbers = ap (count_of n) same in (
            λ some. omega (arith, at, kept n some),
            λ some. there n (omega (arith, at, some)),
          ),
      λ each.
          let same : left ≡ numbers = same-members left numbers up c.requires
          (λ n. (λ some. (each n).0 (there n some), λ some. kept n ((each n).1 some))) in
          c.eq.ensures ∙ decides.1 (value ∙ same),
    )
