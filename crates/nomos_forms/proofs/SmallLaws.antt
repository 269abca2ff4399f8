-- What is weighted has small numbers where it is one of the rows.
use Rattle.std.proofs.Common.{ℕ, ◌-◌, List, length, get_or, sym, arith, ℤ, pos, All, Bool, true, false, cond, ◌==◌, ⊎_elim, subst}
use Rattle.std.proofs.lemmas.Bool.{cases_lt}
use Rattle.std.proofs.lemmas.List.{get_or_past}
use Rattle.std.proofs.lemmas.List.Elements.{All-contains}
use Rattle.nomos_forms.specs.Bounds.{IsSmall, IsRow}
use Rattle.nomos_forms.specs.Refuting.{coef_in, IsOneOf}
use Rattle.nomos_forms.specs.declared.row.Row.{Row}
use Rattle.nomos_forms.specs.declared.verdict.Of.{Of}
use Rattle.nomos_forms.specs.declared.verdict.Of.TheVariants as of

-- a row that is there has small numbers, and so has a bound
pub small_coef : (n : ℕ) (rows : List Row) (star : ℕ) (o : Of) → All (IsRow n) rows → IsOneOf n rows o →
    IsSmall (coef_in star o)
small_coef n rows star (of.Star own) h i = small_unit (own == star)
  where
    small_unit : (b : Bool) → IsSmall (cond b (pos 1) (pos 0))
    small_unit true = omega arith
    small_unit false = omega arith
small_coef n rows star (of.Row row) h i = get_small row.coefs (star - 1) (All-contains (IsRow n) rows row h i).coefs
  where
    get_small : (cs : List ℤ) (k : ℕ) → All IsSmall cs → IsSmall (get_or cs k (pos 0))
    get_small cs k all = ⊎_elim (λ lt. all k (pos 0) lt) (λ le. subst IsSmall (sym (get_or_past cs k (pos 0) le))
        (omega arith)) (cases_lt k (length cs))
