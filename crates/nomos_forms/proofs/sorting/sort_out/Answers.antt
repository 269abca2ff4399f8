use Rattle.std.proofs.Common.{refl}
use Rattle.std.specs.Cmp.{int_cmp_total, int_eq_equiv}
use Rattle.std.specs.Ordering.{int_eq}
use Rattle.std.proofs.lemmas.Bool.Decides.{Decides-int_eq}
use Rattle.std.proofs.lemmas.List.Filters.{dedup_is}
use Rattle.std.proofs.lemmas.List.Kept.{Contains-dedup, Contains-from_dedup, IsStrictlySortedBy-dedup}
use Rattle.std.proofs.lemmas.List.Sorted.{Contains-permutation, IsPermutation-sym}
use Rattle.nomos_forms.proofs.sorting.sort_out.Goals as goal

pub returns : goal.returns
returns c =
    let is = dedup_is int_eq _ _ c.dedup.ensures.filtered in
    let moved = c.sort_unstable.ensures.permutation in
    record {
      ascend = rw is (IsStrictlySortedBy-dedup int_cmp_total (λ x y. refl) _ c.sort_unstable.ensures.sorted);
      same = λ least. (
        (λ h. Contains-permutation _ _ least (IsPermutation-sym _ _ moved) (Contains-from_dedup int_eq _ least
            (rw is at h))),
        (λ h. rw is (Contains-dedup int_eq_equiv (λ x y. (Decides-int_eq x y).0) _ least (Contains-permutation _ _ least
            moved h))),
      );
    }
