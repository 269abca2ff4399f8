-- Lists with the same rows.
use Rattle.std.proofs.Common.{ℕ, List, ◌++◌, All, Contains, pos, ◌-ℤ◌}
use Rattle.std.specs.List.Sorted.{IsPermutation}
use Rattle.std.proofs.lemmas.List.Elements.{All-weaker, All-contains, All-contains_itself}
use Rattle.std.proofs.lemmas.List.FromFn.{length-map-range_with_len}
use Rattle.std.proofs.lemmas.List.Sorted.{IsPermutation-sym, IsPermutation-append_comm, Contains-permutation}
use Rattle.nomos_ir.specs.Amounts.{star_of}
use Rattle.nomos_ir.specs.declared.amount.Amount.{Amount}
use Rattle.nomos_forms.specs.Bounds.{IsSmall, IsRow}
use Rattle.nomos_forms.specs.RowsOf.{difference_row, units_in}
use Rattle.nomos_forms.specs.declared.row.Row.{Row}
use Rattle.nomos_forms.specs.mirror.StarCounts.{count_in}
use Rattle.nomos_forms.specs.mirror.SameRows.{HasSame}
use Rattle.nomos_forms.proofs.CountLemmas.{counts-small}

pub same-moved : (xs ys : List Row) → IsPermutation xs ys → HasSame ys xs
same-moved xs ys moved = λ row. (
  Contains-permutation ys xs row (IsPermutation-sym xs ys moved),
  Contains-permutation xs ys row moved,
)

pub same-trans : (xs ys zs : List Row) → HasSame xs ys → HasSame ys zs → HasSame xs zs
same-trans xs ys zs f g = λ row. ((λ h. (g row).0 ((f row).0 h)), (λ h. (f row).1 ((g row).1 h)))

pub same-swapped : (xs ys : List Row) → HasSame (xs ++ ys) (ys ++ xs)
same-swapped xs ys = same-moved (ys ++ xs) (xs ++ ys) (IsPermutation-append_comm ys xs)

pub all-same : (P : Row → Type 0) (xs ys : List Row) → HasSame xs ys → All P ys → All P xs
all-same P xs ys same all = All-weaker (Contains xs) P (λ row h. All-contains P ys row all ((same row).0 h)) xs
    (All-contains_itself xs)

-- a difference whose units are small is a row
pub difference-small : (n : ℕ) (more less : Amount) → IsSmall (pos (units_in less) -ℤ pos (units_in more))
    → IsRow n (difference_row n more less)
difference-small n more less small = record {
  width = length-map-range_with_len (λ star. count_in (star_of more) star -ℤ count_in (star_of less) star) 1 n;
  coefs = counts-small n (star_of more) (star_of less);
  least = small;
}
