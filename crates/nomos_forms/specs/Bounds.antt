-- How large the numbers of forms, rows, amounts and verdicts may be.
use Rattle.std.specs.Prelude.{◌≡◌, ◌<◌, ◌≤◌, ◌^◌, ℕ, ℤ, unsigned_abs, length, All}
use Rattle.nomos_ir.specs.declared.amount.Amount.{Amount}
use Rattle.nomos_ir.specs.declared.amount.Amount.TheVariants as amount
use Rattle.nomos_forms.specs.declared.form.Form.{Form}
use Rattle.nomos_forms.specs.declared.row.Row.{Row}
use Rattle.nomos_forms.specs.declared.found.Found.{Found}
use Rattle.nomos_forms.specs.declared.verdict.Verdict.{Verdict}

-- below 2^45, whatever the sign
abbrev pub IsSmall : ℤ → Type 0
IsSmall z = unsigned_abs z < 2 ^ 45

-- one coefficient for each of n stars, and small numbers
pub record IsForm (n : ℕ) (form : Form) : Type 0 where
  pub width : length form.coefs ≡ n
  pub coefs : All IsSmall form.coefs
  pub plus : IsSmall form.plus

pub record IsRow (n : ℕ) (row : Row) : Type 0 where
  pub width : length row.coefs ≡ n
  pub coefs : All IsSmall row.coefs
  pub least : IsSmall row.least

-- a star in the amount is one of n stars
abbrev pub HasStarUpTo : ℕ → Amount → Type 0
HasStarUpTo n (amount.Written units) = Unit {0}
HasStarUpTo n (amount.Star star) = (1 ≤ star) × (star ≤ n)

abbrev pub IsPairUpTo : ℕ → Amount × Amount → Type 0
IsPairUpTo n pair = HasStarUpTo n pair.0 × HasStarUpTo n pair.1

-- one amount below 2^62 for each of n stars, and a unit that has parts
pub record IsFound (n : ℕ) (found : Found) : Type 0 where
  pub width : length found.stars ≡ n
  pub amounts : All (λ x. x < 2 ^ 62) found.stars
  pub unit : 1 ≤ found.unit

-- at most 65 weights, each below 2^62
pub record IsVerdict (verdict : Verdict) : Type 0 where
  pub count : length verdict.weights ≤ 65
  pub times : All (λ w. w.times < 2 ^ 62) verdict.weights
