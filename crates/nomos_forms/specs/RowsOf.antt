-- The rows of forms and of pairs of amounts.
use Rattle.std.specs.Prelude.{◌==◌, ◌↔◌, ℕ, ℤ, pos, neg_ℤ, ◌-ℤ◌, List, [], ◌∷◌, ◌++◌, map, Contains, if◌then◌else◌}
use Rattle.std.specs.List.{flat_map, range_with_len}
use Rattle.std.specs.List.Sorted.{IsStrictlySortedBy}
use Rattle.nomos_ir.specs.Amounts.{star_of}
use Rattle.nomos_ir.specs.declared.amount.Amount.{Amount}
use Rattle.nomos_ir.specs.declared.amount.Amount.TheVariants as amount
use Rattle.nomos_forms.specs.declared.form.Form.{Form}
use Rattle.nomos_forms.specs.declared.row.Row.{Row}
use Rattle.nomos_forms.specs.RowOrder.{row_cmp}

-- coefs * x + plus >= 0
abbrev pub form_row : Form → Row
form_row form = record { coefs = form.coefs; least = neg_ℤ form.plus }

-- how often a star stands in an amount: once in its own
abbrev pub share_of : Amount → ℕ → ℤ
share_of a star = if star_of a == star then pos 1 else pos 0

-- the whole units of an amount: none in a star
abbrev pub units_in : Amount → ℕ
units_in (amount.Written units) = units
units_in (amount.Star star) = 0

-- a - b >= 0, over n stars
abbrev pub difference_row : ℕ → Amount → Amount → Row
difference_row n a b = record {
  coefs = map (λ star. share_of a star -ℤ share_of b star) (range_with_len 1 n);
  least = pos (units_in b) -ℤ pos (units_in a);
}

-- a - b >= 0 and b - a >= 0
abbrev pub pair_rows : ℕ → Amount × Amount → List Row
pair_rows n pair = difference_row n pair.0 pair.1 ∷ difference_row n pair.1 pair.0 ∷ []

-- one row for each form, two for each pair
abbrev pub all_rows : ℕ → List Form → List (Amount × Amount) → List Row
all_rows n forms pairs = map form_row forms ++ flat_map (pair_rows n) pairs

-- the set of these rows, in ascending order
pub record AreRowsOf (n : ℕ) (forms : List Form) (pairs : List (Amount × Amount)) (rows : List Row) : Type 0 where
  pub ascend : IsStrictlySortedBy row_cmp rows
  pub same : (row : Row) → Contains rows row ↔ Contains (all_rows n forms pairs) row
