use Rattle.std.proofs.Common.{rules}
use Rattle.std.specs.Cmp.Lexicographic.{slice_cmp}
use Rattle.std.specs.Ordering.{int_cmp, is_lt}
use Rattle.std.proofs.lemmas.Fn.{always_returns_same}
use Rattle.std.proofs.lemmas.List.Sorted.{ranks_by}
use Rattle.nomos_forms.specs.declared.row_group.RowGroup.{RowGroup}
use Rattle.nomos_forms.proofs.CoefLemmas.{coefs_total}
use Rattle.nomos_forms.proofs.GroupLemmas.{same-permuted}
use Rattle.nomos_forms.proofs.SortLemmas.{sorted-keys}
use Rattle.nomos_forms.proofs.sorting.sort_groups.Goals as goal

pub returns-clause-same : goal.returns-clause-same
returns-clause-same c = same-permuted _ _ c.sort_unstable_by.ensures.permutation

pub returns-clause-ascend : goal.returns-clause-ascend
returns-clause-ascend c = sorted-keys (slice_cmp int_cmp) (λ (g : RowGroup). g.coefs) _
    (c.sort_unstable_by.ensures.sorted (λ x y. is_lt (slice_cmp int_cmp x.coefs y.coefs))
    (ranks_by coefs_total (λ g. g.coefs))
    (always_returns_same _ _ _ (λ a r f called. search rules)))
