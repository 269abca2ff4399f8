-- Weighted rows and bounds of stars that add up to a goal, so that no amounts that meet the rows have a smaller one.
use Rattle.std.specs.Prelude.{◌≡◌, ◌<◌, ◌≤◌, ◌*◌, ◌-◌, ◌^◌, ℕ, ℤ, pos, ◌*ℤ◌, ◌-ℤ◌, ◌≤ℤ◌, List, length, All, slice_index_or}
use Rattle.nomos_forms.specs.Linear.{form_value}
use Rattle.nomos_forms.specs.Meeting.{MeetsRows}
use Rattle.nomos_forms.specs.Refuting.{coef_in, least_in, weighted, IsOneOf}
use Rattle.nomos_forms.specs.declared.form.Form.{Form}
use Rattle.nomos_forms.specs.declared.row.Row.{Row}
use Rattle.nomos_simplex.specs.declared.solved.Proof.{Proof}

-- what a goal has for a star, from 1 on
abbrev pub goal_coef : Form → ℕ → ℤ
goal_coef goal star = slice_index_or goal.coefs (star - 1) (pos 0)

-- The weights are over 0, and of the rows and of bounds of the goal's stars. For each star they add up to `scale` times
-- what the goal has, and what they are at least is `scale` times the total less the goal's written part, `unit` times.
pub record ShowsLeast (rows : List Row) (goal : Form) (unit : ℕ) (proof : Proof) : Type 0 where
  pub scale : 0 < proof.scale
  pub positive : All (λ w. 0 < w.times) proof.weights
  pub of : All (λ w. IsOneOf (length goal.coefs) rows w.of) proof.weights
  pub stars : (star : ℕ) → 1 ≤ star → star ≤ length goal.coefs →
      weighted (coef_in star) proof.weights ≡ pos proof.scale *ℤ goal_coef goal star
  pub total : pos unit *ℤ weighted least_in proof.weights ≡ pos proof.scale *ℤ
      (pos proof.total -ℤ pos unit *ℤ goal.plus)

-- at most 64 weights, and they and the scale are below 2^62
pub record IsProof (proof : Proof) : Type 0 where
  pub count : length proof.weights ≤ 64
  pub scale : proof.scale < 2 ^ 62
  pub times : All (λ w. w.times < 2 ^ 62) proof.weights

-- Amounts over any other unit that meet the rows have no smaller goal: total/unit is at most what the goal comes to
-- under them, over their unit.
abbrev pub NoneSmaller : List Row → Form → ℕ → ℕ → Type 0
NoneSmaller rows goal unit total = (amounts : List ℕ) (other : ℕ) → length amounts ≡ length goal.coefs → 0 < other →
    MeetsRows amounts other rows → pos (other * total) ≤ℤ (pos unit *ℤ form_value amounts other goal)
