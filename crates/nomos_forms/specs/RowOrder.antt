-- Rows ascend by c1, then c2 and so on, then by their least.
use Rattle.std.specs.Prelude.{◌≡◌, Bool}
use Rattle.std.proofs.Common.{refl}
use Rattle.std.specs.Cmp.{IsTotalOrder, on_total, then_total, int_cmp_total, both_tied}
use Rattle.std.specs.Cmp.Lexicographic.{slice_cmp, pointwise, lists_total, lists_ties}
use Rattle.std.specs.Ordering.{int_cmp, int_eq, on, then_cmp, eq_of_both, eq_by_cmp}
use Rattle.std.specs.declared.cmp.Ordering.{Ordering}
use Rattle.nomos_forms.specs.declared.row.Row.{Row}

abbrev pub row_cmp : Row → Row → Ordering
row_cmp = then_cmp (on (λ row. row.coefs) (slice_cmp int_cmp)) (on (λ row. row.least) int_cmp)

-- rows with the same numbers
abbrev pub row_eq : Row → Row → Bool
row_eq = eq_of_both (on (λ row. row.coefs) (pointwise int_eq)) (on (λ row. row.least) int_eq)

-- the order is total, and it ties exactly the rows with the same numbers
pub row_total : IsTotalOrder row_cmp
row_total = then_total (on_total (λ row. row.coefs) (lists_total int_cmp_total)) (on_total (λ row. row.least)
    int_cmp_total)

pub row_ties : (x y : Row) → row_eq x y ≡ eq_by_cmp row_cmp x y
row_ties x y = both_tied (pointwise int_eq x.coefs y.coefs) (int_eq x.least y.least) (slice_cmp int_cmp x.coefs
    y.coefs) (int_cmp x.least y.least) (lists_ties int_cmp (λ a b. refl) x.coefs y.coefs) refl
