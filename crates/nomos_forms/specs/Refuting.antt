-- Weighted rows and bounds of stars that add up to 0 >= gives.
use Rattle.std.specs.Prelude.{◌≡◌, ◌==◌, ◌<◌, ◌≤◌, ◌-◌, ℕ, ℤ, List, [], ◌∷◌, length, pos, ◌+ℤ◌, ◌*ℤ◌, All, Contains, if◌then◌else◌, slice_index_or}
use Rattle.nomos_forms.specs.Meeting.{MeetsRows}
use Rattle.nomos_forms.specs.declared.row.Row.{Row}
use Rattle.nomos_forms.specs.declared.verdict.Of.{Of}
use Rattle.nomos_forms.specs.declared.verdict.Of.TheVariants as of
use Rattle.nomos_forms.specs.declared.verdict.Weight.{Weight}
use Rattle.nomos_forms.specs.declared.verdict.Verdict.{Verdict}

-- what a weighted row or bound has for a star, and what it is at least: x >= 0 has 1 for its star
abbrev pub coef_in : ℕ → Of → ℤ
coef_in star (of.Star own) = if own == star then pos 1 else pos 0
coef_in star (of.Row row) = slice_index_or row.coefs (star - 1) (pos 0)

abbrev pub least_in : Of → ℤ
least_in (of.Star own) = pos 0
least_in (of.Row row) = row.least

-- the sum of what the weighted ones have
abbrev pub weighted : (Of → ℤ) → List Weight → ℤ
weighted part [] = pos 0
weighted part (w ∷ ws) = pos w.times *ℤ part w.of +ℤ weighted part ws

-- a weighted star is one of n stars, and a weighted row one of the rows
abbrev pub IsOneOf : ℕ → List Row → Of → Type 0
IsOneOf n rows (of.Star own) = (1 ≤ own) × (own ≤ n)
IsOneOf n rows (of.Row row) = Contains rows row

-- nothing is left of any of n stars
abbrev pub LeavesNoStar : ℕ → List Weight → Type 0
LeavesNoStar n weights = (star : ℕ) → 1 ≤ star → star ≤ n → weighted (coef_in star) weights ≡ pos 0

-- the verdict refutes the rows over n stars
pub record Refutes (n : ℕ) (rows : List Row) (verdict : Verdict) : Type 0 where
  pub of : All (λ w. IsOneOf n rows w.of) verdict.weights
  pub positive : All (λ w. 0 < w.times) verdict.weights
  pub no_star : LeavesNoStar n verdict.weights
  pub gives : weighted least_in verdict.weights ≡ pos verdict.gives
  pub over_zero : 0 < verdict.gives

-- no amounts over any unit meet the rows
abbrev pub NoneMeet : ℕ → List Row → Type 0
NoneMeet n rows = (amounts : List ℕ) (unit : ℕ) → length amounts ≡ n → 0 < unit → ¬ MeetsRows amounts unit rows
