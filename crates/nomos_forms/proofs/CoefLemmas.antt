-- The order of coefficients and of rows.
use Rattle.std.proofs.Common.{◌≡◌, ◌∙◌, ℤ, List, [], ◌∷◌, Less, Equal, map, refl, ap}
use Rattle.std.specs.List.{AllByRecursion}
use Rattle.std.specs.List.Sorted.{IsStrictlySortedBy}
use Rattle.std.proofs.lemmas.Cmp.{tied_itself}
use Rattle.std.specs.Cmp.{IsTotalOrder, int_cmp_total}
use Rattle.std.specs.Cmp.Lexicographic.{slice_cmp, pointwise_decides, lists_total, lists_ties}
use Rattle.std.specs.Ordering.{int_cmp, is_eq, ordering_then}
use Rattle.std.proofs.lemmas.Bool.Decides.{Decides-int_eq}
use Rattle.nomos_forms.specs.RowGroups.{row_of}
use Rattle.nomos_forms.specs.RowOrder.{row_cmp}
use Rattle.nomos_forms.specs.declared.row.Row.{Row}

pub coefs_total : IsTotalOrder (slice_cmp int_cmp)
coefs_total = lists_total int_cmp_total

-- coefficients that compare alike are the same
pub coefs_exact : (x y : List ℤ) → slice_cmp int_cmp x y ≡ Equal → x ≡ y
coefs_exact x y e = (pointwise_decides Decides-int_eq x y).0 (lists_ties int_cmp (λ a b. refl) x y ∙ ap is_eq e)

-- rows of which the coefficients of the first come first
pub less-coefs : (x y : Row) → slice_cmp int_cmp x.coefs y.coefs ≡ Less → row_cmp x y ≡ Less
less-coefs x y less = ap (λ o. ordering_then o (int_cmp x.least y.least)) less

less-leasts : (coefs : List ℤ) (l : ℤ) (ls : List ℤ) → AllByRecursion (λ m. int_cmp l m ≡ Less) ls
    → AllByRecursion (λ row. row_cmp (row_of coefs l) row ≡ Less) (map (row_of coefs) ls)
less-leasts coefs l [] h = tt
less-leasts coefs l (m ∷ ms) h =
    (ap (λ o. ordering_then o (int_cmp l m)) (tied_itself coefs_total coefs) ∙ h.0, less-leasts coefs l ms h.1)

-- leasts that ascend make rows that do
pub strict-rows : (coefs : List ℤ) (ls : List ℤ) → IsStrictlySortedBy int_cmp ls
    → IsStrictlySortedBy row_cmp (map (row_of coefs) ls)
unfolding IsStrictlySortedBy
strict-rows coefs [] s = tt
strict-rows coefs (l ∷ ls) s = (less-leasts coefs l ls s.0, strict-rows coefs ls s.1)
