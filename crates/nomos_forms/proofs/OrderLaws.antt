-- The test of rows is equality.
use Rattle.std.proofs.Common.{◌≡◌, Decides, ap}
use Rattle.std.specs.Cmp.Lexicographic.{pointwise, pointwise_decides, lists_equiv}
use Rattle.std.specs.Cmp.{IsEquivalence, and_equiv, on_equiv, int_eq_equiv}
use Rattle.std.specs.Ordering.{int_eq}
use Rattle.std.proofs.lemmas.Bool.Decides.{Decides-and, Decides-like, Decides-int_eq}
use Rattle.nomos_forms.specs.RowOrder.{row_eq}
use Rattle.nomos_forms.specs.declared.row.Row.{Row}

pub row_eq_decides : (x y : Row) → Decides (row_eq x y) (x ≡ y)
row_eq_decides x y = Decides-like (row_eq x y)
    (λ p. λ i. record { coefs = p.0 i; least = p.1 i })
    (λ e. (ap (λ r. r.coefs) e, ap (λ r. r.least) e))
    (Decides-and (pointwise int_eq x.coefs y.coefs) (int_eq x.least y.least) (pointwise_decides Decides-int_eq x.coefs
    y.coefs) (Decides-int_eq x.least y.least))

pub row_eq_equiv : IsEquivalence row_eq
row_eq_equiv = and_equiv (on_equiv (λ row. row.coefs) (lists_equiv int_eq_equiv)) (on_equiv (λ row. row.least)
    int_eq_equiv)
